use Rattle.std.proofs.Common.{◌+◌, take, List, sym, subst}
use Rattle.std.specs.Arc.{arc_value}
use Rattle.model_journal.specs.Journal.{vals}
use Rattle.lasp_graph.specs.States.{Held, held_of}
use Rattle.lasp_replica.specs.Replica.{frame_of, entries_of}
use Rattle.lasp_replica.specs.Since.{AreSince}
use Rattle.lasp_replica.proofs.SinceLaws.{since-none, since-pushed}
use Rattle.lasp_replica.proofs.replica.Replica.states_since.Goals as goal

pub loop-x-init : goal.loop-x-init
loop-x-init c =
    let r = c.args.self.now in
    let before = vals (frame_of r) (take c.args.n (entries_of r)) in
    subst (λ (all : List Held). AreSince (arc_value r.graph) before r.states 0 all) (sym c.new-all.ensures) (since-none (arc_value r.graph) before r.states)

pub loop-x-preserved : goal.loop-x-preserved
loop-x-preserved c =
    let r = c.args.self.now in
    let before = vals (frame_of r) (take c.args.n (entries_of r)) in
    subst (λ (all : List Held). AreSince (arc_value r.graph) before r.states (c.loop-x.x + 1) all) (sym c.in_ok-push.ensures.ok)
    (since-pushed (arc_value r.graph) before r.states c.loop-x.x c.loop-x.all (held_of (arc_value c.in_ok-state_since.field-0)) c.loop-x.invariant c.in_ok-state_since.ensures)
