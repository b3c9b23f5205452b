use Rattle.std.proofs.Common.{◌≡◌, ◌-◌}
use Rattle.model_wire.specs.Reader.{list_at}
use Rattle.model_wire.specs.Message.{limited_at, nothing_more}
use Rattle.lasp_wire.proofs.Loop.{with_front}
use Rattle.lasp_wire.proofs.read.sequence.numbers_in.Given as goal

abbrev pub invariant-loop : goal.invariant-loop
invariant-loop l = with_front l.numbers.items (list_at (limited_at l.most) nothing_more (l.count - l.counter) tt l.rest) ≡ list_at (limited_at l.most) nothing_more l.count tt l.bytes
