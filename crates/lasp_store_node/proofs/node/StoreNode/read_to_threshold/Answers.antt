use Rattle.std.proofs.Common.{subst}
use Rattle.lasp_drive.specs.Node.{OnlyLearns}
use Rattle.lasp_store_node.specs.View.{Seen, seen, node_of, node_seen}
use Rattle.lasp_store_node.proofs.LentLaws.{lent-learns}
use Rattle.lasp_store_node.proofs.WindowLaws.{learned-chain}
use Rattle.lasp_store_node.proofs.node.StoreNode.read_to_threshold.Goals as goal

-- opening the read is one call, and lending the feed to it another
pub returns-clause-learns : goal.returns-clause-learns
returns-clause-learns g c =
    let last = c.self.inside.last in
    let new = c.await_read.new.feed in
    learned-chain c.args.self.now c.open.new.self (seen new last) c.open.ensures.learns
    (subst (λ (n : Seen). OnlyLearns (node_seen n) (node_of new last)) c.self.view_is (lent-learns last c.self.inside.feed new c.self.invariant.early c.await_read.ensures))
