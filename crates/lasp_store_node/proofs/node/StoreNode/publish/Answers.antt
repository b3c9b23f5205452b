use Rattle.lasp_drive.specs.Reads.{as_they_are}
use Rattle.lasp_store_node.specs.View.{seen}
use Rattle.lasp_store_node.proofs.FeedLaws.{turn-learns}
use Rattle.lasp_store_node.proofs.WindowLaws.{learned-chain}
use Rattle.lasp_store_node.proofs.node.StoreNode.publish.Goals as goal

-- asking whether it is published is one call, putting in order another, and publishing a third
pub returns-clause-learns : goal.returns-clause-learns
returns-clause-learns g c =
    let asked = c.has_published.new.self in
    let ordered = c.order_shown.new.self in
    let new = c.open.new.feed in
    learned-chain c.args.self.now asked (seen new c.self.inside.last) c.has_published.ensures.learns
    (learned-chain asked ordered (seen new c.self.inside.last) c.order_shown.ensures.learns
    (turn-learns as_they_are _ c.self.inside.feed c.self.inside.last ordered new c.self.view_is c.self.invariant.early c.self.invariant.feed
    (record { own = c.known.ensures.own; allowed = c.known.ensures.allowed }) (record { own = c.known-2.ensures.own; allowed = c.known-2.ensures.allowed }) c.open.ensures.turn))
