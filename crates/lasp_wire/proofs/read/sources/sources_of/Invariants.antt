use Rattle.std.proofs.Common.{◌≡◌, ◌-◌, map}
use Rattle.model_wire.specs.Reader.{list_at}
use Rattle.model_wire.specs.Message.{any_source_at, nothing_of_sources}
use Rattle.lasp_wire.specs.Sent.{sent_of}
use Rattle.lasp_wire.proofs.Loop.{with_front}
use Rattle.lasp_wire.proofs.read.sources.sources_of.Given as goal

abbrev pub invariant-loop : goal.invariant-loop
invariant-loop l = with_front (map sent_of l.sources.items) (list_at (any_source_at l.version l.nodes) nothing_of_sources (l.count - l.counter) tt l.rest) ≡ list_at (any_source_at l.version l.nodes) nothing_of_sources l.count tt l.bytes
