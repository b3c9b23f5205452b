use Rattle.std.proofs.Common.{◌≡◌, ◌-◌, None}
use Rattle.model_wire.specs.Reader.{list_at}
use Rattle.model_wire.specs.Value.{latest}
use Rattle.model_wire.specs.Message.{row_after_at}
use Rattle.lasp_wire.specs.Read.{last_of}
use Rattle.lasp_wire.proofs.Loop.{with_front}
use Rattle.lasp_wire.proofs.read.rows.rows_of.Given as goal

abbrev pub invariant-loop : goal.invariant-loop
invariant-loop l = with_front l.rows.items (list_at (row_after_at l.nodes) latest (l.count - l.counter) (last_of l.rows.items) l.rest) ≡ list_at (row_after_at l.nodes) latest l.count None l.bytes
