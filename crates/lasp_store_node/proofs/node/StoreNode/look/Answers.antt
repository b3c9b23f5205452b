use Rattle.std.proofs.Common.{[]}
use Rattle.lasp_drive.specs.Reads.{as_they_are}
use Rattle.lasp_store_node.proofs.FeedLaws.{turn-learns}
use Rattle.lasp_store_node.proofs.CountedLaws.{turned-own}
use Rattle.lasp_store_node.proofs.node.StoreNode.look.Goals as goal

pub returns-clause-learns : goal.returns-clause-learns
returns-clause-learns g c =
    turn-learns as_they_are _ c.self.inside.feed c.self.inside.last c.args.self.now c.look-state.new.h c.self.view_is c.self.invariant.early c.self.invariant.feed
    (record { own = c.known.ensures.own; allowed = c.known.ensures.allowed }) (record { own = c.known-2.ensures.own; allowed = c.known-2.ensures.allowed }) c.look-state.ensures.turn

pub invariant_of-self : goal.invariant_of-self
invariant_of-self g c = turned-own c.self.inside.store.now c.self.inside.last c.self.inside.window c.self.inside.known [] c.self.inside.feed c.look-state.new.h c.look-state.ensures.turn c.self.invariant
