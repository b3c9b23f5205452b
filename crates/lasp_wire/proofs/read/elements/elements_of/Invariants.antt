use Rattle.std.proofs.Common.{◌≡◌, ◌-◌, None, map}
use Rattle.model_wire.specs.Reader.{list_at}
use Rattle.model_wire.specs.Value.{latest}
use Rattle.model_wire.specs.Message.{value_after_at}
use Rattle.lasp_value.specs.Value.{val_of}
use Rattle.lasp_wire.specs.Read.{last_of}
use Rattle.lasp_wire.proofs.Loop.{with_front}
use Rattle.lasp_wire.proofs.read.elements.elements_of.Given as goal

abbrev pub invariant-loop : goal.invariant-loop
invariant-loop l = with_front (map val_of l.values.items) (list_at value_after_at latest (l.count - l.counter) (last_of (map val_of l.values.items)) l.rest) ≡ list_at value_after_at latest l.count None l.bytes
