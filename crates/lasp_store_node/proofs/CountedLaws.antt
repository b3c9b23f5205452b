-- Counts that a feed has counted stay counted, and what it has seen stays seen.
use Rattle.std.proofs.Common.{◌≡◌, ◌∙◌, ◌≤◌, ◌<◌, ◌==◌, max, ℕ, Bool, true, false, List, [], ◌∷◌, length, Some, Option, refl, sym, ap, subst, arith, slice_get, slice_set, if◌then◌else◌}
use Rattle.std.specs.Prelude.{IfSome, OnOk, OnErr, Result, Ok, Err, None}
use Rattle.std.proofs.lemmas.Bool.Decides.{nat_tests}
use Rattle.std.proofs.lemmas.List.{length-append}
use Rattle.std.proofs.lemmas.Option.{get_or_from_slice_get}
use Rattle.model_states.specs.Counts.{count_at, AreCountsAtMost}
use Rattle.model_states.proofs.CountLaws.{count_at-larger, count_at-set}
use Rattle.model_graph.specs.Message.{Message}
use Rattle.model_journal.specs.Entry.{Deliver, Entry, Frame, entry}
use Rattle.model_journal.specs.Journal.{Journal, counts}
use Rattle.model_journal.proofs.JournalLaws.{counts-grow, journal-push}
use Rattle.lasp_histlock.specs.Names.{LockId}
use Rattle.lasp_core.specs.Listed.{GoesOn}
use Rattle.lasp_snap.specs.Views.{ShelfView}
use Rattle.lasp_store.specs.Settled.{HasSettled}
use Rattle.lasp_store.specs.Turn.{Knows, HadTurn, frame_in, frame_of, looked_at}
use Rattle.lasp_store.proofs.TurnLaws.{turn-frame, turn-seen, turn-seated}
use Rattle.lasp_store_node.specs.Lent.{IsLent}
use Rattle.lasp_node.specs.declared.node.LastSent.{LastSent}
use Rattle.lasp_store_node.specs.View.{Place, IsEarly, AreCounted}
use Rattle.lasp_store_node.specs.Window.{IsOwn}
use Rattle.lasp_store_node.proofs.WindowLaws.{window-turn}

-- each that is known is, where the feed goes on
counted-later : (known : Option (List ℕ)) (old new : Knows) → frame_of new ≡ frame_of old → GoesOn old.seen new.seen → IfSome known (λ ns. AreCounted ns old) → IfSome known (λ ns. AreCounted ns new)
counted-later (Some ns) old new frame on were = λ q.
    let grown = subst (λ (z : Frame × List Entry). AreCountsAtMost (counts (frame_of old) old.seen) (counts z.0 z.1)) (λ i. (sym frame i, sym on.1 i)) (counts-grow (frame_of old) old.seen on.0) in
    omega (arith, were q, grown q)
counted-later None old new frame on were = tt

pub counted-turn : (more : List Entry) (old new : Knows) (known : Option (List ℕ)) → HadTurn more old new → IfSome known (λ ns. AreCounted ns old) → IfSome known (λ ns. AreCounted ns new)
counted-turn more old new known t = counted-later known old new (turn-frame more old new t) (turn-seen more old new t)

pub counted-settled : (old new : Knows) (known : Option (List ℕ)) → HasSettled old new → IfSome known (λ ns. AreCounted ns old) → IfSome known (λ ns. AreCounted ns new)
counted-settled old new known h = counted-later known old new (ap frame_of h.pass) (h.seen.0, h.seen.1)

pub counted-lent : (old new : Knows) (known : Option (List ℕ)) → IsLent old new → IfSome known (λ ns. AreCounted ns old) → IfSome known (λ ns. AreCounted ns new)
counted-lent old new known l = counted-later known old new (ap (λ (q : Place). frame_in q.frame) l.place) l.goes_on

-- ---- what it has seen

early-later : (last : Option LastSent) (old new : Knows) → GoesOn old.seen new.seen → IsEarly last old → IsEarly last new
early-later last old new on early = omega (arith, early, ap (λ (l : List Entry). length l) on.1, length-append old.seen on.0)

pub early-turn : (more : List Entry) (old new : Knows) (last : Option LastSent) → HadTurn more old new → IsEarly last old → IsEarly last new
early-turn more old new last t = early-later last old new (turn-seen more old new t)

pub early-settled : (old new : Knows) (last : Option LastSent) → HasSettled old new → IsEarly last old → IsEarly last new
early-settled old new last h = early-later last old new (h.seen.0, h.seen.1)

pub early-lent : (old new : Knows) (last : Option LastSent) → IsLent old new → IsEarly last old → IsEarly last new
early-lent old new last l = early-later last old new l.goes_on

pub ruleset stays_counted = (counted-turn, counted-settled, counted-lent, early-turn, early-settled, early-lent)

-- the node of a store, after a turn of its feed
pub turned-own : (store : LockId) (last : Option LastSent) (opened : Option ShelfView) (known : Option (List ℕ)) (more : List Entry) (old new : Knows) → HadTurn more old new → IsOwn store old last opened known → IsOwn store new last opened known
turned-own store last opened known more old new t was = record {
  feed = record { seated = turn-seated store old new more was.feed.seated.lock t; first = ap (λ (p : Knows). p.number) t.pass ∙ was.feed.first };
  early = early-turn more old new last t was.early;
  shelf = window-turn more old new opened t was.shelf;
  counted = counted-turn more old new known t was.counted;
}

-- after a call that added an entry, or none, before which it closed its window
pub tried-own : {A E : Type 0} (store : LockId) (last : Option LastSent) (opened : Option ShelfView) (known : Option (List ℕ)) (more : List Entry) (old new : Knows) (r : Result A E) → OnOk r (HadTurn more old new) → OnErr r (HadTurn [] old new) → IsOwn store old last opened known
    → IsOwn store new last None known
tried-own store last opened known more old new (Ok done) ok err was = turned-own store last None known more old new ok (record { feed = was.feed; early = was.early; shelf = tt; counted = was.counted })
tried-own store last opened known more old new (Err why) ok err was = turned-own store last None known [] old new err (record { feed = was.feed; early = was.early; shelf = tt; counted = was.counted })

-- and so are those of a message that it took
pub counted-delivered : (old new : Knows) (n : ℕ) (m : Message) → HadTurn (entry 0 (Deliver n m) ∷ []) old new → AreCounted m.counts new
counted-delivered old new n m t q =
    let e : Entry = entry 0 (Deliver n m) in
    subst (λ (l : List Entry). count_at m.counts q ≤ count_at (counts (frame_of new) l) q) (sym (ap (λ (p : Knows). p.seen) t.pass))
    (subst (λ (j : Journal). count_at m.counts q ≤ count_at j.now.counts q) (sym (journal-push (frame_of new) (looked_at new) e)) (omega (arith, count_at-larger (counts (frame_of new) (looked_at new)) m.counts q)))

-- ---- counts that are raised one after the other

pub raise-bound : (i : ℕ) (so_far ds most : List ℕ) (c d : ℕ) → i < length so_far → slice_get so_far i ≡ Some c → slice_get ds i ≡ Some d → AreCountsAtMost so_far most → AreCountsAtMost ds most → AreCountsAtMost (slice_set so_far i (max c d)) most
raise-bound i so_far ds most c d low own at a b q = subst (λ (n : ℕ). n ≤ count_at most q) (sym (count_at-set so_far i (max c d) q low)) (choose (q == i) refl) where
  choose : (t : Bool) → (q == i) ≡ t → (if t then max c d else count_at so_far q) ≤ count_at most q
  choose true e =
      let here : i ≡ q = grind (arith, nat_tests, e) in
      subst (λ (p : ℕ). max c d ≤ count_at most p) here (omega (arith, a i, b i, get_or_from_slice_get so_far i c 0 own, get_or_from_slice_get ds i d 0 at))
  choose false e = a q
