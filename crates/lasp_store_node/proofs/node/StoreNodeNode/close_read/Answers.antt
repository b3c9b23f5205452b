use Rattle.std.proofs.Common.{[]}
use Rattle.lasp_core.specs.Reads.{read_of}
use Rattle.lasp_drive.specs.Reads.{closes_one}
use Rattle.lasp_store_node.proofs.FeedLaws.{turn-learns}
use Rattle.lasp_store_node.proofs.CountedLaws.{turned-own}
use Rattle.lasp_store_node.proofs.node.StoreNodeNode.close_read.Goals as goal

pub returns-clause-closed : goal.returns-clause-closed
returns-clause-closed g c =
    turn-learns (closes_one (read_of c.args.r.now).number) _ c.self.inside.feed c.self.inside.last c.args.self.now c.close_read.new.h c.self.view_is c.self.invariant.early c.self.invariant.feed
    (record { own = c.known.ensures.own; allowed = c.known.ensures.allowed }) (record { own = c.known-2.ensures.own; allowed = c.known-2.ensures.allowed }) c.close_read.ensures

pub invariant_of-self : goal.invariant_of-self
invariant_of-self g c = turned-own c.self.inside.store.now c.self.inside.last c.self.inside.window c.self.inside.known [] c.self.inside.feed c.close_read.new.h c.close_read.ensures c.self.invariant
