use Rattle.std.proofs.Common.{◌≡◌, ◌∙◌, sym, ap, subst, take}
use Rattle.std.specs.Arc.{arc_value}
use Rattle.model_graph.specs.Graph.{kind_at}
use Rattle.model_graph.specs.Graph as plain
use Rattle.model_graph.specs.Evaluation.{content_at}
use Rattle.model_journal.specs.Journal.{vals}
use Rattle.lasp_state.specs.declared.state.State.{State}
use Rattle.lasp_graph.specs.Kind.{kind_of}
use Rattle.lasp_graph.specs.States.{held_of, held_at}
use Rattle.lasp_replica.specs.Replica.{frame_of, entries_of}
use Rattle.lasp_replica.specs.Since.{IsSince}
use Rattle.lasp_replica.proofs.SettledLaws.{kind-from}
use Rattle.lasp_replica.proofs.SinceLaws.{since-rows, since-all, shared-state}
use Rattle.lasp_replica.proofs.TakeLaws.{states-at, state-at}
use Rattle.lasp_replica.proofs.replica.Replica.state_since.Goals as goal

pub at-requires-in_default : goal.at-requires-in_default
at-requires-in_default c = states-at c.args.self.now c.requires.replica c.args.x c.from-in_default.result c.from-in_default.ensures c.requires.var

pub returns-in_ok-new-in-OrSet : goal.returns-in_ok-new-in-OrSet
returns-in_ok-new-in-OrSet c =
    let r = c.args.self.now in
    let kind : kind_at (arc_value r.graph) c.args.x ≡ plain.OrSet = kind-from (arc_value r.graph) c.deref.result.now c.from.result c.args.x (kind_of c.at.result.now.kind) c.deref.ensures c.from.ensures c.at.ensures.kind ∙ ap kind_of c.in-OrSet.is in
    subst (λ (s : State). IsSince (kind_at (arc_value r.graph) c.args.x) (content_at (vals (frame_of r) (take c.args.n (entries_of r))) c.args.x) (held_at r.states c.args.x) (held_of s)) (sym c.in_ok-new-in-OrSet.ensures.ok)
    (since-rows r c.requires.replica c.args.x c.args.n c.requires.var c.requires.early kind c.in_ok-rows-in-OrSet.rows c.in_ok-rows-in-OrSet.ensures)

pub returns-in_default : goal.returns-in_default
returns-in_default c =
    let r = c.args.self.now in
    let k = c.at.result.now.kind in
    let kind = kind-from (arc_value r.graph) c.deref.result.now c.from.result c.args.x (kind_of k) c.deref.ensures c.from.ensures c.at.ensures.kind in
    let held = state-at r c.args.x c.from-in_default.result (arc_value c.at-in_default.result.now) c.from-in_default.ensures c.at-in_default.ensures in
    shared-state (arc_value c.at-in_default.result.now) (λ (s : State). IsSince (kind_at (arc_value r.graph) c.args.x) (content_at (vals (frame_of r) (take c.args.n (entries_of r))) c.args.x) (held_at r.states c.args.x) (held_of s)) c.try_clone.result c.try_clone.ensures
    (since-all k (kind_at (arc_value r.graph) c.args.x) kind c.in_default.not-OrSet (content_at (vals (frame_of r) (take c.args.n (entries_of r))) c.args.x) (arc_value c.at-in_default.result.now) (held_at r.states c.args.x) held)
