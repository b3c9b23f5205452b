use Rattle.std.proofs.Common.{[]}
use Rattle.lasp_state.specs.Threshold.{threshold_of}
use Rattle.lasp_drive.specs.Reads.{as_they_are, opens_next}
use Rattle.lasp_store_node.proofs.FeedLaws.{turn-learns, where-ok, where-err}
use Rattle.lasp_store_node.proofs.CountedLaws.{turned-own}
use Rattle.lasp_store_node.proofs.node.StoreNodeNode.open_read.Goals as goal

pub returns-clause-ok : goal.returns-clause-ok
returns-clause-ok g c =
    where-ok c.open_read-read.result
    (turn-learns (opens_next c.args.x (threshold_of c.args.threshold)) _ c.self.inside.feed c.self.inside.last c.args.self.now c.open_read-read.new.h c.self.view_is c.self.invariant.early c.self.invariant.feed
    (record { own = c.known.ensures.own; allowed = c.known.ensures.allowed }) (record { own = c.known-2.ensures.own; allowed = c.known-2.ensures.allowed }) c.open_read-read.ensures.turn)

pub returns-clause-err : goal.returns-clause-err
returns-clause-err g c =
    where-err c.open_read-read.result
    (turn-learns as_they_are _ c.self.inside.feed c.self.inside.last c.args.self.now c.open_read-read.new.h c.self.view_is c.self.invariant.early c.self.invariant.feed
    (record { own = c.known.ensures.own; allowed = c.known.ensures.allowed }) (record { own = c.known-2.ensures.own; allowed = c.known-2.ensures.allowed }) c.open_read-read.ensures.turn)

pub invariant_of-self : goal.invariant_of-self
invariant_of-self g c = turned-own c.self.inside.store.now c.self.inside.last c.self.inside.window c.self.inside.known [] c.self.inside.feed c.open_read-read.new.h c.open_read-read.ensures.turn c.self.invariant
