use Rattle.std.proofs.Common.{◌≡◌, List, length, subst, ◌∙◌}
use Rattle.std.specs.Arc.{arc_value}
use Rattle.model_graph.specs.Graph.{Decl}
use Rattle.model_world.specs.Command.{Script}
use Rattle.model_world.specs.World.{Run}
use Rattle.lasp_histlock.specs.Names.{LockId}
use Rattle.lasp_threads.specs.Closed.{AreClosed}
use Rattle.lasp_threads.specs.Stores.{AreBack}
use Rattle.lasp_threads.proofs.ClosedLaws.{back-closable, HaveCounts, closed-run, closed-peers, closed-frames}
use Rattle.lasp_top.proofs.closed.run_closed.Goals as goal

pub close_stores-requires : goal.close_stores-requires
close_stores-requires g c =
    let graph : List Decl = arc_value c.args.graph.now in
    back-closable graph c.in_ok-stores.stores.items c.drive.new.feeds.items (subst (λ (stores : List LockId). AreBack graph stores c.drive.new.feeds.items) c.as_slice.ensures.value c.drive.ensures.back)

pub returns-in_ok-close_stores-in-Ok : goal.returns-in_ok-close_stores-in-Ok
returns-in_ok-close_stores-in-Ok g c =
    let graph : List Decl = arc_value c.args.graph.now in
    let script : Script = c.args.script.now in
    let told = c.in-Ok.ensures.reports in
    let run : Run = told.0 in
    let stores : List LockId = c.in_ok-stores.stores.items in
    let feeds = c.drive.new.feeds.items in
    let cores = c.in_ok-close_stores-in-Ok.field-0.items in
    let size : length stores ≡ script.nodes = c.in_ok-stores.ensures.stores ∙ c.nodes.ensures in
    let back : AreBack graph stores feeds = subst (λ (locks : List LockId). AreBack graph locks feeds) c.as_slice.ensures.value c.drive.ensures.back in
    let closed : AreClosed feeds cores = c.in_ok-close_stores-in-Ok.ensures in
    let counted : HaveCounts graph script run =
    λ p low h legal made. (c.journals_with_the_calls_have_the_sources.ensures.script graph script run legal.opening c.requires.lawful told.1 p low h legal made).2 in (
      run,
      told.1,
      told.2,
      record {
        traced = closed-run graph script run stores feeds cores size back closed c.in-Ok.ensures.ran counted;
        peers = closed-peers graph script run stores feeds cores size back closed c.in-Ok.ensures.ran told.1;
        frames = closed-frames graph script run stores feeds cores size back closed;
      },
    )
