-- Which hands are out while they are made and come back.
use Rattle.std.proofs.Common.{◌≡◌, ◌≢◌, ℕ, suc, ◌+◌, ◌≤◌, ◌<◌, ◌==◌, eq-eqb, ◌⊎◌, inl, inr, Bool, true, false, ◌||◌, List, [], ◌∷◌, ◌++◌, length, map, refl, sym, ap, subst, ◌∙◌, append_assoc, append-nil, arith}
use Rattle.std.specs.Prelude.{Some, slice_get, slice_set}
use Rattle.std.specs.List.{AllZip}
use Rattle.std.proofs.Math.Nat.{eq-or-lt_of_le}
use Rattle.std.proofs.lemmas.List.{map-append}
use Rattle.lasp_histlock.specs.History.{among}
use Rattle.lasp_histlock.specs.Names.{LockId}
use Rattle.lasp_store.specs.Turn.{Knows, frame_of}
use Rattle.lasp_drive.proofs.NodeLaws.{at-set}
use Rattle.lasp_workers.specs.Worked.{IsLater}
use Rattle.lasp_threads.specs.Spots.{Spot, spot_of, all_spots, IsOut, AreAt, HasOut, HaveOut, HaveMade, AreMaking}
use Rattle.lasp_threads.proofs.ListLaws.{zip-mapped, at-before, at-end, at-push}

-- ---- who is out

pub out-before : (p k : ℕ) (a b : List Spot) → IsOut p k a → IsOut p k (a ++ b)
out-before p k [] b out = absurd out
out-before p k (s ∷ a) b (inl here) = inl here
out-before p k (s ∷ a) b (inr later) = inr (out-before p k a b later)

pub out-last : (a : List Spot) (s : Spot) → IsOut s.0 s.2 (a ++ s ∷ [])
out-last [] s = inl (refl, refl)
out-last (t ∷ a) s = inr (out-last a s)

-- who is out is among the others, or is the last
pub out-but : (p k : ℕ) (a : List Spot) (s : Spot) → IsOut p k (a ++ s ∷ []) → IsOut p k a ⊎ ((s.0 ≡ p) × (s.2 ≡ k))
out-but p k [] s (inl here) = inr here
out-but p k [] s (inr none) = absurd none
out-but p k (t ∷ a) s (inl here) = inl (inl here)
out-but p k (t ∷ a) s (inr later) = by (out-but p k a s later) where
  by : IsOut p k a ⊎ ((s.0 ≡ p) × (s.2 ≡ k)) → IsOut p k (t ∷ a) ⊎ ((s.0 ≡ p) × (s.2 ≡ k))
  by (inl before) = inl (inr before)
  by (inr last) = inr last

-- ---- who is back

among-before : (k : ℕ) (a b : List ℕ) → among k a ≡ true → among k (a ++ b) ≡ true
among-before k [] b there = absurd (let same : false ≡ true = there in cc)
among-before k (n ∷ a) b there = choose (among-before k a b) (k == n) refl where
  choose : (among k a ≡ true → among k (a ++ b) ≡ true) → (same : Bool) → (k == n) ≡ same → among k ((n ∷ a) ++ b) ≡ true
  choose later true here = ap (λ (x : Bool). x || among k (a ++ b)) here
  choose later false other = ap (λ (x : Bool). x || among k (a ++ b)) other ∙ later (sym (ap (λ (x : Bool). x || among k a) other) ∙ there)

among-last : (k : ℕ) (a : List ℕ) → among k (a ++ k ∷ []) ≡ true
among-last k [] = ap (λ (x : Bool). x || false) (eq-eqb k k refl)
among-last k (n ∷ a) = choose (among-last k a) (k == n) refl where
  choose : among k (a ++ k ∷ []) ≡ true → (same : Bool) → (k == n) ≡ same → among k ((n ∷ a) ++ k ∷ []) ≡ true
  choose later true here = ap (λ (x : Bool). x || among k (a ++ k ∷ [])) here
  choose later false other = ap (λ (x : Bool). x || among k (a ++ k ∷ [])) other ∙ later

-- ---- a hand is made, and comes back

pub split-out : (spots : List Spot) (feeds : List Knows) (s : Spot) (f new : Knows) → slice_get feeds s.0 ≡ Some f → s.2 ≡ f.made → new.made ≡ f.made + 1 → new.back ≡ f.back → HaveOut spots feeds → HaveOut (spots ++ s ∷ []) (slice_set feeds s.0 new)
split-out spots feeds s f new at number made back out =
    at-set (HasOut (spots ++ s ∷ [])) feeds s.0 new (λ q h other there k some low. further q k h.back (out q h there k some low)) here where
      further : (q k : ℕ) (b : List ℕ) → (among k b ≡ true) ⊎ IsOut q k spots → (among k b ≡ true) ⊎ IsOut q k (spots ++ s ∷ [])
      further q k b (inl is_back) = inl is_back
      further q k b (inr is_out) = inr (out-before q k spots (s ∷ []) is_out)

      here : (k : ℕ) → 0 < k → k < new.made → (among k new.back ≡ true) ⊎ IsOut s.0 k (spots ++ s ∷ [])
      here k some low = by (eq-or-lt_of_le (omega (arith, low, made))) where
        by : (k ≡ f.made) ⊎ (k < f.made) → (among k new.back ≡ true) ⊎ IsOut s.0 k (spots ++ s ∷ [])
        by (inl last) = inr (subst (λ (n : ℕ). IsOut s.0 n (spots ++ s ∷ [])) (number ∙ sym last) (out-last spots s))
        by (inr before) = subst (λ (b : List ℕ). (among k b ≡ true) ⊎ IsOut s.0 k (spots ++ s ∷ [])) (sym back) (further s.0 k f.back (out s.0 f at k some before))

pub rejoin-out : (spots : List Spot) (feeds : List Knows) (s : Spot) (f new : Knows) → slice_get feeds s.0 ≡ Some f → new.made ≡ f.made → new.back ≡ f.back ++ s.2 ∷ [] → HaveOut (spots ++ s ∷ []) feeds → HaveOut spots (slice_set feeds s.0 new)
rejoin-out spots feeds s f new at made back out =
    at-set (HasOut spots) feeds s.0 new (λ q h other there k some low. apart q k h.back (λ same. other (sym same)) (out q h there k some low)) here where
      apart : (q k : ℕ) (b : List ℕ) → s.0 ≢ q → (among k b ≡ true) ⊎ IsOut q k (spots ++ s ∷ []) → (among k b ≡ true) ⊎ IsOut q k spots
      apart q k b other (inl is_back) = inl is_back
      apart q k b other (inr is_out) = by (out-but q k spots s is_out) where
        by : IsOut q k spots ⊎ ((s.0 ≡ q) × (s.2 ≡ k)) → (among k b ≡ true) ⊎ IsOut q k spots
        by (inl before) = inr before
        by (inr last) = absurd (other last.0)

      here : (k : ℕ) → 0 < k → k < new.made → (among k new.back ≡ true) ⊎ IsOut s.0 k spots
      here k some low = subst (λ (b : List ℕ). (among k b ≡ true) ⊎ IsOut s.0 k spots) (sym back) (by (out s.0 f at k some (omega (arith, low, made)))) where
        last : IsOut s.0 k spots ⊎ ((s.0 ≡ s.0) × (s.2 ≡ k)) → (among k (f.back ++ s.2 ∷ []) ≡ true) ⊎ IsOut s.0 k spots
        last (inl before) = inr before
        last (inr is) = inl (subst (λ (n : ℕ). among n (f.back ++ s.2 ∷ []) ≡ true) is.1 (among-last s.2 f.back))

        by : (among k f.back ≡ true) ⊎ IsOut s.0 k (spots ++ s ∷ []) → (among k (f.back ++ s.2 ∷ []) ≡ true) ⊎ IsOut s.0 k spots
        by (inl is_back) = inl (among-before k f.back (s.2 ∷ []) is_back)
        by (inr is_out) = last (out-but s.0 k spots s is_out)

-- ---- how many numbers were given out

pub making-next : (most p : ℕ) (feeds : List Knows) (f new : Knows) → AreMaking most p feeds → slice_get feeds p ≡ Some f → new.made ≡ f.made + 1 → AreMaking most (p + 1) (slice_set feeds p new)
making-next most p feeds f new making at made = record {
  before = at-set (λ q g. g.made ≤ most + 1) feeds p new (λ q g other there. making.before q g there) (omega (arith, made, making.behind p f at (omega arith)));
  behind = at-set (λ q g. p + 1 ≤ q → g.made ≤ most) feeds p new (λ q g other there past. making.behind q g there (omega (arith, past))) (λ past. absurd (omega (arith, past)));
}

pub making-ends : (most p : ℕ) (feeds : List Knows) → AreMaking most p feeds → HaveMade (most + 1) feeds
making-ends most p feeds making = making.before

-- a hand came back
pub made-same : (most p : ℕ) (feeds : List Knows) (f new : Knows) → HaveMade most feeds → slice_get feeds p ≡ Some f → new.made ≡ f.made → HaveMade most (slice_set feeds p new)
made-same most p feeds f new made at same = at-set (λ q g. g.made ≤ most) feeds p new (λ q g other there. made q g there) (omega (arith, same, made p f at))

-- ---- the hands of workers

-- a hand stands at the store of its node
pub at-pushed : (stores : List LockId) (spots : List Spot) (s : Spot) → AreAt stores spots → slice_get stores s.0 ≡ Some s.1 → AreAt stores (spots ++ s ∷ [])
at-pushed stores spots s at here = at-push (λ (t : Spot). slice_get stores t.0 ≡ Some t.1) spots s at here

pub at-last : (stores : List LockId) (spots : List Spot) (s : Spot) → AreAt stores (spots ++ s ∷ []) → slice_get stores s.0 ≡ Some s.1
at-last stores spots s at = at (length spots) s (at-end spots s)

pub at-others : (stores : List LockId) (spots : List Spot) (s : Spot) → AreAt stores (spots ++ s ∷ []) → AreAt stores spots
at-others stores spots s at j t there = at j t (at-before spots s j t there)

pub at-both : (stores : List LockId) (a b : List Spot) → AreAt stores a → AreAt stores b → AreAt stores (a ++ b)
at-both stores a [] one two = subst (λ (spots : List Spot). AreAt stores spots) (sym (append-nil a)) one
at-both stores a (s ∷ b) one two =
    subst (λ (spots : List Spot). AreAt stores spots) (append_assoc a (s ∷ []) b)
    (at-both stores (a ++ s ∷ []) b (at-pushed stores a s one (two 0 s refl)) (λ j t there. two (suc j) t there))

pub at-first : (stores : List LockId) (a b : List Spot) → AreAt stores (a ++ b) → AreAt stores a
at-first stores a [] all = subst (λ (spots : List Spot). AreAt stores spots) (append-nil a) all
at-first stores a (s ∷ b) all = at-others stores a s (at-first stores (a ++ s ∷ []) b (subst (λ (spots : List Spot). AreAt stores spots) (sym (append_assoc a (s ∷ []) b)) all))

pub at-second : (stores : List LockId) (a b : List Spot) → AreAt stores (a ++ b) → AreAt stores b
at-second stores [] b all = all
at-second stores (s ∷ a) b all = at-second stores a b (λ j t there. all (suc j) t there)

-- the last worker's hands stand last
pub spots-pushed : (all : List (List Spot)) (spots : List Spot) → all_spots (all ++ spots ∷ []) ≡ all_spots all ++ spots
spots-pushed [] spots = append-nil spots
spots-pushed (first ∷ all) spots = ap (λ (more : List Spot). first ++ more) (spots-pushed all spots) ∙ sym (append_assoc first (all_spots all) spots)

-- ---- a worker gets a hand, and gives one back

more-pairs : (all pairs : List (ℕ × (Knows × ℕ))) (node : ℕ) (seated : Knows × ℕ) (hand : Knows) → hand ≡ seated.0 → all ≡ pairs ++ (node, seated) ∷ [] → map spot_of all ≡ map spot_of pairs ++ (node, hand.lock, hand.number) ∷ []
more-pairs all pairs node seated hand is more =
    ap (map spot_of) more ∙ map-append spot_of pairs ((node, seated) ∷ []) ∙ (λ i. map spot_of pairs ++ (node, (sym is i).lock, (sym is i).number) ∷ [])

pub pairs-at : (stores : List LockId) (all pairs : List (ℕ × (Knows × ℕ))) (node : ℕ) (seated : Knows × ℕ) (hand : Knows) → hand ≡ seated.0 → all ≡ pairs ++ (node, seated) ∷ [] → AreAt stores (map spot_of pairs) → slice_get stores node ≡ Some hand.lock → AreAt stores (map spot_of all)
pairs-at stores all pairs node seated hand is more at here =
    subst (λ (l : List Spot). AreAt stores l) (sym (more-pairs all pairs node seated hand is more)) (at-pushed stores (map spot_of pairs) (node, hand.lock, hand.number) at here)

pub pairs-out : (spots : List Spot) (feeds : List Knows) (all pairs : List (ℕ × (Knows × ℕ))) (node : ℕ) (seated : Knows × ℕ) (hand : Knows) → hand ≡ seated.0 → all ≡ pairs ++ (node, seated) ∷ []
    → HaveOut ((spots ++ map spot_of pairs) ++ (node, hand.lock, hand.number) ∷ []) feeds → HaveOut (spots ++ map spot_of all) feeds
pairs-out spots feeds all pairs node seated hand is more out =
    subst (λ (l : List Spot). HaveOut l feeds) (append_assoc spots (map spot_of pairs) ((node, hand.lock, hand.number) ∷ []) ∙ ap (λ (l : List Spot). spots ++ l) (sym (more-pairs all pairs node seated hand is more))) out

pub pairs-popped : (stores : List LockId) (all pairs : List (ℕ × (Knows × ℕ))) (node : ℕ) (seated : Knows × ℕ) (hand : Knows) → hand ≡ seated.0 → all ≡ pairs ++ (node, seated) ∷ [] → AreAt stores (map spot_of all) → AreAt stores (map spot_of pairs) × (slice_get stores node ≡ Some hand.lock)
pairs-popped stores all pairs node seated hand is more at =
    let whole = subst (λ (l : List Spot). AreAt stores l) (more-pairs all pairs node seated hand is more) at in
    (at-others stores (map spot_of pairs) (node, hand.lock, hand.number) whole, at-last stores (map spot_of pairs) (node, hand.lock, hand.number) whole)

pub out-popped : (spots : List Spot) (feeds : List Knows) (all pairs : List (ℕ × (Knows × ℕ))) (node : ℕ) (seated : Knows × ℕ) (hand : Knows) → hand ≡ seated.0 → all ≡ pairs ++ (node, seated) ∷ []
    → HaveOut (spots ++ map spot_of all) feeds → HaveOut ((spots ++ map spot_of pairs) ++ (node, hand.lock, hand.number) ∷ []) feeds
out-popped spots feeds all pairs node seated hand is more out =
    subst (λ (l : List Spot). HaveOut l feeds) (ap (λ (l : List Spot). spots ++ l) (more-pairs all pairs node seated hand is more) ∙ sym (append_assoc spots (map spot_of pairs) ((node, hand.lock, hand.number) ∷ []))) out

-- ---- the hands of all workers

pub workers-popped : {W : Type 0} (all ws : List W) (w : W) (f : W → List Spot) → all ≡ ws ++ w ∷ [] → all_spots (map f all) ≡ all_spots (map f ws) ++ f w
workers-popped all ws w f is = ap (λ (l : List _). all_spots (map f l)) is ∙ ap all_spots (map-append f ws (w ∷ [])) ∙ spots-pushed (map f ws) (f w)

-- work leaves the hands where they are
pub spots-stay : (old new : List (ℕ × (Knows × ℕ)))
    → AllZip (IsLater {P = LockId × ℕ} (λ (s : Knows × ℕ). (s.0.lock, s.0.number)) (λ (s : Knows × ℕ). frame_of s.0) (λ (s : Knows × ℕ). s.0.number) (λ (s : Knows × ℕ). s.0.seen)) old new → map spot_of new ≡ map spot_of old
spots-stay old new all = zip-mapped (IsLater {P = LockId × ℕ} (λ (s : Knows × ℕ). (s.0.lock, s.0.number)) (λ (s : Knows × ℕ). frame_of s.0) (λ (s : Knows × ℕ). s.0.number) (λ (s : Knows × ℕ). s.0.seen)) spot_of
    (λ x y later. λ i. (later.node i, (later.jobs.place_is i).0, (later.jobs.place_is i).1)) old new all
