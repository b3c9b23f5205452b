use Rattle.std.proofs.Common.{[], List, sym, subst}
use Rattle.model_journal.specs.Entry.{Entry, Frame}
use Rattle.model_journal.specs.Journal.{val}
use Rattle.model_core.specs.Known.{HasLeast}
use Rattle.lasp_state.specs.Threshold.{threshold_of}
use Rattle.lasp_drive.specs.Reads.{as_they_are}
use Rattle.lasp_store.specs.Turn.{frame_of}
use Rattle.lasp_store_node.specs.View.{Seen}
use Rattle.lasp_store.proofs.KnownLaws.{least-later}
use Rattle.lasp_store.proofs.TurnLaws.{turn-at}
use Rattle.lasp_store_node.proofs.FeedLaws.{turn-learns}
use Rattle.lasp_store_node.proofs.CountedLaws.{turned-own}
use Rattle.lasp_store_node.proofs.LentLaws.{read-held}
use Rattle.lasp_store_node.proofs.node.StoreNode.open.Goals as goal

pub returns-clause-held : goal.returns-clause-held
returns-clause-held g c =
    let x = c.args.x in
    let w = threshold_of c.args.threshold in
    let feed = c.self.inside.feed in
    let new = c.open_read_with-read.new.h in
    let known : HasLeast w (val (frame_of feed) feed.seen x) = subst (λ (n : Seen). HasLeast w (val (frame_of n.feed) n.feed.seen x)) (sym c.self.view_is) c.requires.known in
    read-held c.open_read_with-read.result (frame_of new) new.seen x w
    (turn-at (λ (X : Frame) (L : List Entry). HasLeast w (val X L x)) [] feed new c.open_read_with-read.ensures.turn (λ more. least-later (frame_of feed) feed.seen more x w known))
    c.open_read_with-read.ensures.read c.open_read_with-read.ensures.open

pub returns-clause-learns : goal.returns-clause-learns
returns-clause-learns g c =
    turn-learns as_they_are _ c.self.inside.feed c.self.inside.last c.args.self.now c.open_read_with-read.new.h c.self.view_is c.self.invariant.early c.self.invariant.feed
    (record { own = c.known.ensures.own; allowed = c.known.ensures.allowed }) (record { own = c.known-2.ensures.own; allowed = c.known-2.ensures.allowed }) c.open_read_with-read.ensures.turn

pub invariant_of-self : goal.invariant_of-self
invariant_of-self g c = turned-own c.self.inside.store.now c.self.inside.last c.self.inside.window c.self.inside.known [] c.self.inside.feed c.open_read_with-read.new.h c.open_read_with-read.ensures.turn c.self.invariant
