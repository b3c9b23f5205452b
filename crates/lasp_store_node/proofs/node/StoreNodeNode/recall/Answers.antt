use Rattle.std.proofs.Common.{sym, subst}
use Rattle.model_journal.specs.Journal.{graph, vals}
use Rattle.model_journal.proofs.CleanLaws.{vals-below-eval}
use Rattle.model_core.proofs.SourceLaws.{sources-source}
use Rattle.lasp_store.specs.Turn.{frame_of}
use Rattle.lasp_drive.specs.Node.{ShowsNoMore}
use Rattle.lasp_store_node.specs.View.{Seen, node_seen}
use Rattle.lasp_store_node.proofs.node.StoreNodeNode.recall.Goals as goal

pub returns : goal.returns
returns g c =
    subst (λ (n : Seen). ShowsNoMore (node_seen n)) c.self.view_is (let p = c.self.inside.feed in
    record {
      sources = λ x low source. sym (sources-source (graph (frame_of p) p.seen) (vals (frame_of p) p.seen) x low source);
      bounded = vals-below-eval (frame_of p) p.seen c.self.invariant.feed.seated.legal;
      unmet = tt;
    })
