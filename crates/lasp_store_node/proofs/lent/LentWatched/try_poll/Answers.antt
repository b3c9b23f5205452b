use Rattle.std.proofs.Common.{ℕ, List, [], IsTrue, sym, ap, subst, ◌∙◌}
use Rattle.model_states.specs.Content.{Content}
use Rattle.model_states.specs.Threshold.{Shape, suits}
use Rattle.model_journal.specs.Entry.{Entry, Frame}
use Rattle.model_core.specs.Core.{Read}
use Rattle.model_core.specs.Known.{HasLeast}
use Rattle.lasp_graph.specs.States.{Held}
use Rattle.lasp_core.specs.Core.{state_after}
use Rattle.lasp_core.specs.Reads.{read_of}
use Rattle.lasp_store.specs.Turn.{Knows, frame_of}
use Rattle.lasp_store.proofs.KnownLaws.{least-later}
use Rattle.lasp_store.proofs.TurnLaws.{tried-at, turn-at}
use Rattle.lasp_store_node.specs.Lent.{IsHeld, IsLentFrom}
use Rattle.lasp_store_node.proofs.LentLaws.{lent-polled, lent-lock}
use Rattle.lasp_store_node.proofs.lent.LentWatched.try_poll.Goals as goal

pub reached-requires-clause-fits : goal.reached-requires-clause-fits
reached-requires-clause-fits g c =
    let feed = c.self.inside.feed in
    let new = c.try_look-looked.new.h in
    let r = read_of c.args.r.now in
    let was : IsHeld (frame_of feed) feed.seen r = subst (λ (p : Knows). IsHeld (frame_of p) p.seen r) (sym c.self.view_is) c.requires.open in
    let may : IsHeld (frame_of new) new.seen r =
    turn-at (λ (X : Frame) (L : List Entry). IsHeld X L r) [] feed new c.in-Ok.ensures.ok.turn
    (λ more. record { may = c.reads_stay_open.ensures (frame_of feed) feed.seen more r was.may; least = least-later (frame_of feed) feed.seen more r.var r.threshold was.least }) in
    subst (λ (s : Shape). IsTrue (suits r.threshold s))
    (sym (ap (λ (k : Held). k.shape) (c.in-Ok.ensures.state ∙ ap (λ (x : ℕ). state_after (frame_of new) new.seen x) c.var.ensures))) may.may.suits_it

pub reached-requires-clause-known : goal.reached-requires-clause-known
reached-requires-clause-known g c =
    let feed = c.self.inside.feed in
    let new = c.try_look-looked.new.h in
    let r = read_of c.args.r.now in
    let was : IsHeld (frame_of feed) feed.seen r = subst (λ (p : Knows). IsHeld (frame_of p) p.seen r) (sym c.self.view_is) c.requires.open in
    let may : IsHeld (frame_of new) new.seen r =
    turn-at (λ (X : Frame) (L : List Entry). IsHeld X L r) [] feed new c.in-Ok.ensures.ok.turn
    (λ more. record { may = c.reads_stay_open.ensures (frame_of feed) feed.seen more r was.may; least = least-later (frame_of feed) feed.seen more r.var r.threshold was.least }) in
    subst (λ (s : Content). HasLeast r.threshold s)
    (sym (ap (λ (k : Held). k.content) (c.in-Ok.ensures.state ∙ ap (λ (x : ℕ). state_after (frame_of new) new.seen x) c.var.ensures))) may.least

pub returns-clause-open : goal.returns-clause-open
returns-clause-open g c =
    let new = c.try_look-looked.new.h in
    let feed = c.self.inside.feed in
    subst (λ (p : Knows). (other : Read) → IsHeld (frame_of p) p.seen other → IsHeld (frame_of new) new.seen other) c.self.view_is
    (λ other may.
    tried-at (λ (X : Frame) (L : List Entry). IsHeld X L other) feed new c.try_look-looked.result c.try_look-looked.ensures.busy c.try_look-looked.ensures.ok c.try_look-looked.ensures.refused may
    (λ more. record { may = c.reads_stay_open.ensures (frame_of feed) feed.seen more other may.may; least = least-later (frame_of feed) feed.seen more other.var other.threshold may.least }))

pub invariant_of-self : goal.invariant_of-self
invariant_of-self g c =
    let start = g.L.Loan.start in
    let feed = c.self.inside.feed in
    let new = c.try_look-looked.new.h in
    let lent : IsLentFrom start new = lent-polled start feed new c.try_look-looked.result c.self.invariant.1
    (record { own = c.known.ensures.own; allowed = c.known.ensures.allowed }) (record { own = c.known-2.ensures.own; allowed = c.known-2.ensures.allowed })
    c.try_look-looked.ensures.busy c.try_look-looked.ensures.ok c.try_look-looked.ensures.refused in
    (lent-lock start c.self.inside.store.now feed new c.self.invariant.1 lent c.self.invariant.0, lent)
