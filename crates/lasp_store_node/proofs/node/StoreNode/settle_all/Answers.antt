use Rattle.std.proofs.Common.{sym, subst}
use Rattle.model_readings.specs.Lawful.{FitsAll}
use Rattle.lasp_graph.specs.Library.{library_of}
use Rattle.lasp_store.specs.Turn.{graph_seen}
use Rattle.lasp_drive.specs.Node.{OnlyGrew}
use Rattle.lasp_store_node.specs.View.{Seen, node_of, node_seen}
use Rattle.lasp_store_node.proofs.FeedLaws.{settled-grew}
use Rattle.lasp_store_node.proofs.node.StoreNode.settle_all.Goals as goal

pub settle_all-settled-requires-clause-fits : goal.settle_all-settled-requires-clause-fits
settle_all-settled-requires-clause-fits g c = subst (λ (n : Seen). FitsAll (library_of c.args.lib.now) (graph_seen n.feed)) (sym c.self.view_is) c.requires

pub returns-clause-grew : goal.returns-clause-grew
returns-clause-grew g c =
    subst (λ (n : Seen). OnlyGrew (node_seen n) (node_of c.settle_all-settled.new.f c.self.inside.last)) c.self.view_is (settled-grew c.self.inside.last c.self.inside.feed c.settle_all-settled.new.f c.self.invariant.early
    (record { own = c.known.ensures.own; allowed = c.known.ensures.allowed }) (record { own = c.known-2.ensures.own; allowed = c.known-2.ensures.allowed })
    c.self.invariant.feed.first c.settle_all-settled.ensures.seated.legal c.settle_all-settled.ensures.pass)
