use Rattle.std.proofs.Common.{subst, ◌∙◌}
use Rattle.std.specs.Prelude.{List}
use Rattle.model_graph.specs.Graph.{Decl}
use Rattle.model_readings.specs.Lawful.{IsGraph}
use Rattle.lasp_core.proofs.TailLaws.{sent-lawful, sent-long, sent-kinds, sent-tail}
use Rattle.lasp_core.proofs.replica_core.Core.tail_since.Goals as goal

pub message_of-requires-clause-lawful : goal.message_of-requires-clause-lawful
message_of-requires-clause-lawful c =
    sent-lawful c.args.self.now c.recall.ensures.core c.args.n c.in_ok-states.states c.in_ok-states.ensures c.deref-2.result.now c.as_slice.result.now (c.deref-2.ensures ∙ c.graph-graph.ensures) (c.as_slice.ensures ∙ c.counts.ensures)
    (subst (λ (g : List Decl). IsGraph g) (c.deref.ensures ∙ c.graph-graph.ensures) c.recall-2.ensures)

pub message_of-requires-clause-long : goal.message_of-requires-clause-long
message_of-requires-clause-long c =
    sent-long c.args.self.now c.recall.ensures.core c.args.n c.in_ok-states.states c.in_ok-states.ensures c.deref-2.result.now c.as_slice.result.now (c.deref-2.ensures ∙ c.graph-graph.ensures) (c.as_slice.ensures ∙ c.counts.ensures)

pub message_of-requires-clause-kinds : goal.message_of-requires-clause-kinds
message_of-requires-clause-kinds c =
    sent-kinds c.args.self.now c.recall.ensures.core c.args.n c.in_ok-states.states c.in_ok-states.ensures c.deref-2.result.now c.as_slice.result.now (c.deref-2.ensures ∙ c.graph-graph.ensures) (c.as_slice.ensures ∙ c.counts.ensures)

pub returns : goal.returns
returns c =
    sent-tail c.args.self.now c.recall.ensures.core c.args.n c.in_ok-states.states c.in_ok-states.ensures c.deref-2.result.now c.as_slice.result.now (c.deref-2.ensures ∙ c.graph-graph.ensures) (c.as_slice.ensures ∙ c.counts.ensures)
    c.message_of.result c.message_of.ensures
