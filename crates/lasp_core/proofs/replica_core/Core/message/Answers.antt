use Rattle.std.proofs.Common.{◌≡◌, sym, subst, ◌∙◌}
use Rattle.std.specs.Prelude.{List, IfOk}
use Rattle.model_graph.specs.Graph.{Decl}
use Rattle.model_graph.specs.Message.{Message}
use Rattle.model_readings.specs.Lawful.{IsGraph}
use Rattle.model_wire.specs.Lawful.{IsMessage}
use Rattle.lasp_core.proofs.MessageLaws.{message-same, message-lawful, states-long}
use Rattle.lasp_core.proofs.replica_core.Core.message.Goals as goal

pub message_of-requires-clause-lawful : goal.message_of-requires-clause-lawful
message_of-requires-clause-lawful c =
    let core = c.args.self.now in
    subst (λ (m : Message). IsMessage m)
    (sym (message-same core.frame core.entries c.deref-2.result.now c.states.result.now c.as_slice.result.now (c.deref-2.ensures ∙ c.graph-graph.ensures) c.states.ensures.contents (c.as_slice.ensures ∙ c.counts.ensures)))
    (message-lawful core c.recall.ensures.core (subst (λ (g : List Decl). IsGraph g) (c.deref.ensures ∙ c.graph-graph.ensures) c.recall-2.ensures))

pub message_of-requires-clause-long : goal.message_of-requires-clause-long
message_of-requires-clause-long c =
    let core = c.args.self.now in
    states-long core.frame core.entries c.recall.ensures.core.legal c.deref-2.result.now c.states.result.now (c.deref-2.ensures ∙ c.graph-graph.ensures) c.states.ensures.contents

pub returns : goal.returns
returns c =
    let core = c.args.self.now in
    subst (λ (m : Message). IfOk c.message_of.result (λ n. n ≡ m))
    (message-same core.frame core.entries c.deref-2.result.now c.states.result.now c.as_slice.result.now (c.deref-2.ensures ∙ c.graph-graph.ensures) c.states.ensures.contents (c.as_slice.ensures ∙ c.counts.ensures))
    c.message_of.ensures
