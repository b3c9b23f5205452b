use Rattle.lasp_store_node.proofs.FeedLaws.{fresh-node}
use Rattle.lasp_store_node.proofs.node.StoreNode.new.Goals as goal

pub returns-clause-fresh : goal.returns-clause-fresh
returns-clause-fresh g c X is = fresh-node c.args.store.now X c.args.feed is
