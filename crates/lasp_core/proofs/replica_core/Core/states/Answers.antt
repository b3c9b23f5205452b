use Rattle.std.proofs.Common.{◌≡◌, subst}
use Rattle.model_graph.specs.Graph.{kind_at}
use Rattle.model_graph.specs.Lawful.{IsDerived}
use Rattle.model_journal.specs.Journal.{graph}
use Rattle.model_core.specs.Core.{Core}
use Rattle.lasp_graph.specs.States.{held_at}
use Rattle.lasp_graph.specs.Evaluated.{number_by}
use Rattle.lasp_core.proofs.CoresLaws.{held-number}
use Rattle.lasp_core.proofs.replica_core.Core.states.Goals as goal

pub returns-clause-numbers : goal.returns-clause-numbers
returns-clause-numbers c =
    subst (λ (s : Core). (y : _) → IsDerived (graph s.frame s.entries) y → (held_at c.self.inside.replica.states y).number ≡ number_by (kind_at (graph s.frame s.entries) y) (held_at c.self.inside.replica.states y).content) c.self.view_is
    (held-number c.self.inside.replica c.self.invariant.replica)
