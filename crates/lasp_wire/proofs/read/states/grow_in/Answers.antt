use Rattle.std.proofs.Common.{map, arith}
use Rattle.lasp_value.specs.Value.{val_of}
use Rattle.lasp_wire.proofs.Rising.{elements_ascend}
use Rattle.lasp_wire.proofs.read.states.grow_in.Goals as goal

pub from_ascending-requires : goal.from_ascending-requires
from_ascending-requires c = elements_ascend c.args.bytes.now c.in_ok-values.rest.now (map val_of c.in_ok-values.values.items) (λ i. omega (arith, c.type_inv.bytes i)) c.in_ok-values.ensures
