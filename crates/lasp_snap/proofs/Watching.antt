-- What a spy knows after a reading.
use Rattle.std.proofs.Common.{◌≡◌, ◌⊎◌, ℕ, zero, suc, ◌+◌, ◌≤◌, List, [], ◌∷◌, ◌++◌, length, take, drop, Option, Some, None, Result, Ok, Err, IfOk, IfSome, IfNone, refl, sym, ap, ◌∙◌, subst, inl, inr, le_trans, arith, take-append-drop}
use Rattle.std.specs.List.{AllByRecursion}
use mathlib.Core.List.{IsPrefix}
use Rattle.lasp_histlock.proofs.Prefixes.{prefix_self, prefix_trans, prefix-length}
use Rattle.model_versions.specs.Versions.{states_in}
use Rattle.model_versions.proofs.VersionLaws.{newest-last, more_states}
use Rattle.lasp_snap.specs.declared.rule.Known.{Known}
use Rattle.lasp_snap.specs.declared.shown.Shown.{Shown}
use Rattle.lasp_snap.specs.Version.{Version, IsHeldAtMost, IsSmall, AreRising, last_of, states_last}
use Rattle.lasp_snap.specs.Log.{FrontView, IsTold, shown_in}
use Rattle.lasp_snap.specs.Rule.{Found, IsShown, Looks, knowing, named, published_at}
use Rattle.lasp_snap.specs.Views.{SpyView, spy_view, IsSpy, IsNewSpy, Looked, shelf_view}

module _ {A : Type 0} where
  -- the first n of a list are the first n of each longer one
  pub take_more : (n : ℕ) (xs ys : List A) → IsPrefix xs ys → n ≤ length xs → take n ys ≡ take n xs
  take_more zero xs ys p le = refl
  take_more (suc n) [] ys p le = absurd (omega arith)
  take_more (suc n) (x ∷ xs) [] p le = absurd (cc (p.1))
  take_more (suc n) (x ∷ xs) (y ∷ ys) p le =
      let rest = take_more n xs ys (p.0, cc (p.1)) (omega arith) in cc (p.1, rest)

  take_whole : (xs : List A) → take (length xs) xs ≡ xs
  take_whole [] = refl
  take_whole (x ∷ xs) = ap (λ l. x ∷ l) (take_whole xs)

  take-length : (n : ℕ) (xs : List A) → n ≤ length xs → length (take n xs) ≡ n
  take-length zero xs le = refl
  take-length (suc n) [] le = absurd (omega arith)
  take-length (suc n) (x ∷ xs) le = ap suc (take-length n xs (omega arith))

  take_prefix : (n : ℕ) (xs : List A) → IsPrefix (take n xs) xs
  take_prefix n xs = (drop n xs, take-append-drop n xs)

small_last : (xs : List Version) (v : Version) → AllByRecursion IsSmall (xs ++ v ∷ []) → IsSmall v
small_last [] v h = h.0
small_last (x ∷ xs) v h = small_last xs v h.1

-- the last version that a spy has seen has no fewer states than the last one before
pub more_of : (s t : SpyView) → Looked s t → length (states_last s.seen) ≤ length (states_last t.seen)
more_of s t l =
    let p = l.before in
    subst (λ all. length (states_last s.seen) ≤ length (states_last all)) p.1 (more_states IsHeldAtMost s.seen p.0 (subst AreRising (sym p.1) l.rises))

module _ (kept : Version) (place : ℕ) (heard : FrontView) (v w : Known) (s : IsSpy kept place heard v) where
  -- the states that it keeps
  pub states-kept : states_last (take place v.seen) ≡ kept.states
  states-kept = ap states_in s.kept

  -- it was told more of the same shelf
  module _ (f : FrontView) (book : f.book ≡ heard.book) where
    pub learned : IsTold f.log → IsSpy kept place f v
    learned told = record { shelf = s.shelf ∙ ap (λ b. Some (named b)) (sym book); few = s.few; kept = s.kept; rises = s.rises; small = s.small; told = told }

    pub learned-view : (looks : ℕ) → spy_view v f place looks ≡ record (spy_view v heard place looks) { heard = shown_in f.log }
    learned-view looks = ap (λ b. record { shelf = b; seen = take place v.seen; heard = shown_in f.log; looks = looks; readings = v.readings; last = v.seen }) book

  -- the length of what it saw
  pub place-length : length (take place v.seen) ≡ place
  place-length = take-length place v.seen s.few

  -- no reading was taken: the reader may know more, and the spy is as it was
  module _ (same : w.shelf ≡ v.shelf) (more : IsPrefix v.seen w.seen) where
    stays : take place w.seen ≡ take place v.seen
    stays = take_more place v.seen w.seen more s.few

    pub spy_stays : IsSpy kept place heard w
    spy_stays = record {
      shelf = same ∙ s.shelf;
      few = le_trans s.few (prefix-length v.seen w.seen more);
      kept = ap last_of stays ∙ s.kept;
      rises = subst AreRising (sym stays) s.rises;
      small = s.small;
      told = s.told;
    }

    pub looked_none : (looks : ℕ) → (w.readings ≡ v.readings) ⊎ (w.readings ≡ v.readings + 1) → Looked (spy_view v heard place looks) (spy_view w heard place looks)
    looked_none looks given = record {
      shelf = refl;
      heard = refl;
      before = subst (λ l. IsPrefix (take place v.seen) l) (sym stays) (prefix_self (take place v.seen));
      rises = subst AreRising (sym stays) s.rises;
      given = given;
      look = inr (refl, stays);
    }

  -- a reading was taken
  module _ (y : Shown) (l : Looks v y y w) where
    all : take y.published w.seen ≡ published_at y
    all = ap (take y.published) l.seen ∙ (ap (λ n. take n (published_at y)) (sym l.shown.count) ∙ take_whole (published_at y))

    pub spy_after : IsSpy y.version y.published heard w
    spy_after = record {
      shelf = l.same ∙ s.shelf;
      few = omega (arith, ap length l.seen, l.shown.count);
      kept = ap last_of all ∙ newest-last (shown_in y.front.log) y.version;
      rises = subst AreRising (sym all) l.shown.rises;
      small = small_last (shown_in y.front.log) y.version l.shown.small;
      told = s.told;
    }

    pub looked_one : (looks : ℕ) → IsPrefix (shown_in heard.log) (published_at y) → Looked (spy_view v heard place looks) (spy_view w heard y.published (looks + 1))
    looked_one looks told = record {
      shelf = refl;
      heard = refl;
      before = subst (λ a. IsPrefix (take place v.seen) a) (sym all) (prefix_trans (take place v.seen) v.seen (published_at y) (take_prefix place v.seen) l.before);
      rises = subst AreRising (sym all) l.shown.rises;
      given = inr l.given;
      look = inl (refl, l.given, subst (λ a. IsPrefix (shown_in heard.log) a) (sym all) told, all ∙ sym l.seen);
    }

-- a spy that learned what the writer of x knows, and was told nothing
module _ (x : Shown) (v : Known) (heard : FrontView) (knows : v ≡ knowing x) (empty : heard.log ≡ []) (book : heard.book ≡ x.front.book) where
  seen_is : v.seen ≡ published_at x
  seen_is = ap (λ (k : Known). k.seen) knows

  pub new_spy : length (published_at x) ≡ x.published → IsNewSpy (shelf_view x) (spy_view v heard x.published 0)
  new_spy count = record {
    shelf = book;
    seen = ap (take x.published) seen_is ∙ (ap (λ n. take n (published_at x)) (sym count) ∙ take_whole (published_at x));
    heard = ap shown_in empty;
    looks = refl;
    readings = ap (λ (k : Known). k.readings) knows;
    last = seen_is;
  }

  pub new_is : IsShown x → IsSpy x.version x.published heard v
  new_is is =
      let all : take x.published v.seen ≡ published_at x = ap (take x.published) seen_is ∙ (ap (λ n. take n (published_at x)) (sym is.count) ∙ take_whole (published_at x)) in record {
        shelf = ap (λ (k : Known). k.shelf) knows ∙ ap (λ b. Some (named b)) (sym book);
        few = omega (arith, ap length seen_is, is.count);
        kept = ap last_of all ∙ newest-last (shown_in x.front.log) x.version;
        rises = subst AreRising (sym all) is.rises;
        small = small_last (shown_in x.front.log) x.version is.small;
        told = inl empty;
      }

module _ {E : Type 0} (v w : Known) where
  pub found_one : (x : Shown) (r : Result Shown E) → Looks v x x w → IfOk r (λ s. s ≡ x) → Found v (Some r) w
  found_one x (Ok s) l is = record { same = l.same; before = subst (λ a. IsPrefix v.seen a) (sym l.seen) l.before; shown = subst (λ y. Looks v y y w) (sym is) l; none = tt; given = l.given }
  found_one x (Err e) l is = record { same = l.same; before = subst (λ a. IsPrefix v.seen a) (sym l.seen) l.before; shown = tt; none = tt; given = l.given }

  pub found_none : w ≡ v → Found {E = E} v None w
  found_none is = record { same = ap (λ (k : Known). k.shelf) is; before = subst (λ a. IsPrefix v.seen a) (sym (ap (λ (k : Known). k.seen) is)) (prefix_self v.seen); shown = tt; none = ap (λ (k : Known). k.readings) is; given = tt }

  -- what a reading found, where it found a value
  pub found_looks : (found : Option (Result Shown E)) (r : Result Shown E) (y : Shown) → Found v found w → found ≡ Some r → r ≡ Ok y → Looks v y y w
  found_looks found r y f some ok =
      let one : IfOk r (λ y. Looks v y y w) = subst (λ (o : Option (Result Shown E)). IfSome o (λ x. IfOk x (λ y. Looks v y y w))) some f.shown in
      subst (λ (x : Result Shown E). IfOk x (λ y. Looks v y y w)) ok one

  -- none was given
  pub found_same : (found : Option (Result Shown E)) → Found v found w → found ≡ None → w.readings ≡ v.readings
  found_same found f none = subst (λ (o : Option (Result Shown E)). IfNone o (w.readings ≡ v.readings)) none f.none

pub ruleset watching = (more_of, states-kept, learned, learned-view, place-length, spy_stays, looked_none, spy_after, looked_one, new_spy, new_is, found_one, found_none)
