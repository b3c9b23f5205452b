use Rattle.model_graph.specs.Message.{Message}
use Rattle.model_deltas.specs.Delta.{changed_sources}
use Rattle.lasp_delta.specs.Since.{LeadTo}
use Rattle.lasp_delta.proofs.BegunLaws.{IsBegun}
use Rattle.lasp_delta.proofs.since.changes_since.Given as goal

abbrev pub invariant-loop-i : goal.invariant-loop-i
invariant-loop-i l = (after : Message) → LeadTo l.before l.tail after → IsBegun after.counts (changed_sources l.before.sources 0 after.sources) l.i l.changes
