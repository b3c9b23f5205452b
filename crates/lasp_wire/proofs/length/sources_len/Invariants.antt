use Rattle.std.proofs.Common.{◌≡◌, ◌+◌, drop, length, map}
use Rattle.std.specs.List.{flat_map}
use Rattle.model_graph.specs.Spelling.{spelled_source}
use Rattle.lasp_wire.specs.Sent.{sent_of}
use Rattle.lasp_wire.proofs.length.sources_len.Given as goal

abbrev pub invariant-loop-source : goal.invariant-loop-source
invariant-loop-source l = l.len + length (flat_map spelled_source (map sent_of (drop l.source-index l.sources))) ≡ length (flat_map spelled_source (map sent_of l.sources))
