use Rattle.std.proofs.Common.{[], None}
use Rattle.lasp_drive.specs.Reads.{as_they_are}
use Rattle.lasp_store_node.proofs.FeedLaws.{turn-learns}
use Rattle.lasp_store_node.proofs.CountedLaws.{turned-own}
use Rattle.lasp_store_node.proofs.node.StoreNode.order_shown.Goals as goal

pub returns-clause-learns : goal.returns-clause-learns
returns-clause-learns g c =
    turn-learns as_they_are _ c.self.inside.feed c.self.inside.last c.args.self.now c.order_rows.new.h c.self.view_is c.self.invariant.early c.self.invariant.feed
    (record { own = c.known.ensures.own; allowed = c.known.ensures.allowed }) (record { own = c.known-2.ensures.own; allowed = c.known-2.ensures.allowed }) c.order_rows.ensures

pub invariant_of-self : goal.invariant_of-self
invariant_of-self g c =
    turned-own c.self.inside.store.now c.self.inside.last None c.self.inside.known [] c.self.inside.feed c.order_rows.new.h c.order_rows.ensures (record { feed = c.self.invariant.feed; early = c.self.invariant.early; shelf = tt; counted = c.self.invariant.counted })
