use Rattle.std.proofs.Common.{◌≡◌, ◌-◌, None, map}
use Rattle.model_wire.specs.Reader.{list_at}
use Rattle.model_wire.specs.Value.{latest}
use Rattle.model_wire.specs.Message.{token_after_at}
use Rattle.lasp_wire.specs.Read.{last_of, mark_of}
use Rattle.lasp_wire.proofs.Loop.{with_front}
use Rattle.lasp_wire.proofs.read.tokens.marks_in.Given as goal

abbrev pub invariant-loop : goal.invariant-loop
invariant-loop l = with_front (map mark_of l.marks.items) (list_at (token_after_at l.nodes) latest (l.count - l.counter) (last_of (map mark_of l.marks.items)) l.rest) ≡ list_at (token_after_at l.nodes) latest l.count None l.bytes
