use Rattle.std.proofs.Common.{◌≡◌, ◌∙◌, sym, ap, subst, Some, slice_get, ◌<◌, length, ℕ}
use Rattle.std.specs.Arc.{arc_value}
use Rattle.model_journal.specs.Journal.{graph}
use Rattle.model_core.specs.Core.{Core}
use Rattle.lasp_graph.specs.States.{held_of}
use Rattle.lasp_core.specs.Core.{IsStateOf}
use Rattle.lasp_replica.specs.Replica.{frame_of, entries_of}
use Rattle.lasp_core.proofs.ParkedLaws.{state-there}
use Rattle.lasp_core.proofs.CoresLaws.{state-is}
use Rattle.lasp_core.proofs.replica_core.Core.state.Goals as goal

pub at-requires : goal.at-requires
at-requires c =
    let low : c.args.var < length (graph (frame_of c.self.inside.replica) (entries_of c.self.inside.replica)) = subst (λ (s : Core). c.args.var < length (graph s.frame s.entries)) (sym c.self.view_is) c.requires in
    subst (λ (x : ℕ). x < length c.self.inside.replica.states) (sym c.from.ensures) (state-there c.self.inside.replica c.self.invariant.replica c.args.var low)

pub returns : goal.returns
returns c =
    let low : c.args.var < length (graph (frame_of c.self.inside.replica) (entries_of c.self.inside.replica)) = subst (λ (s : Core). c.args.var < length (graph s.frame s.entries)) (sym c.self.view_is) c.requires in
    let at : slice_get c.self.inside.replica.states c.args.var ≡ Some (held_of (arc_value c.at.result.now)) = ap (λ (x : ℕ). slice_get c.self.inside.replica.states x) (sym c.from.ensures) ∙ c.at.ensures in
    subst (λ (s : Core). IsStateOf s c.args.var (arc_value c.at.result.now)) c.self.view_is
    (state-is c.self.inside.replica c.self.invariant.replica c.self.inside.parked.items c.self.inside.opened c.self.inside.owed c.args.var low (arc_value c.at.result.now) at)
