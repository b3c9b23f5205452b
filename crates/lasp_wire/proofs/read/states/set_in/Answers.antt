use Rattle.std.proofs.Common.{arith}
use Rattle.lasp_wire.proofs.Rising.{rows_ascend}
use Rattle.lasp_wire.proofs.read.states.set_in.Goals as goal

pub of_ascending-requires : goal.of_ascending-requires
of_ascending-requires c = rows_ascend c.args.version c.args.nodes c.args.bytes.now c.in_ok-rows.rest.now c.in_ok-rows.rows.items c.requires.some c.requires.few (λ i. omega (arith, c.type_inv.bytes i)) c.in_ok-rows.ensures
