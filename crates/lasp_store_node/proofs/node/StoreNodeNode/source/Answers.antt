use Rattle.std.proofs.Common.{◌≡◌}
use Rattle.std.specs.Arc.{arc_value}
use Rattle.std.specs.declared.sync.Arc.{Arc}
use Rattle.std.specs.declared.alloc.Global.{Global}
use Rattle.lasp_state.specs.declared.state.State.{State}
use Rattle.lasp_graph.specs.States.{held_of}
use Rattle.lasp_core.specs.Core.{state_after}
use Rattle.lasp_store.specs.Turn.{frame_of}
use Rattle.lasp_drive.specs.Node.{Holds}
use Rattle.lasp_node.proofs.NodeLaws.{if-ok}
use Rattle.lasp_store_node.specs.View.{node_seen}
use Rattle.lasp_store_node.proofs.FeedLaws.{held-source}
use Rattle.lasp_store_node.proofs.node.StoreNodeNode.source.Goals as goal

pub returns-clause-holds : goal.returns-clause-holds
returns-clause-holds g c =
    let old = c.args.self.now in
    let new = c.look.new.self in
    if-ok (λ (s : Arc State Global). held_of (arc_value s) ≡ state_after (frame_of new.feed) new.feed.seen c.args.x) (λ (s : Arc State Global). Holds (node_seen old) c.args.x (arc_value s)) c.look.result
    (λ s is. held-source old new c.args.x (arc_value s) c.look.ensures.learns.learns c.requires.var c.requires.source is) c.look.ensures.state
