-- What the log of a shelf tells was published.
use Rattle.std.proofs.Common.{◌≡◌, suc, ◌+◌, ◌-◌, ◌≤◌, List, [], ◌∷◌, ◌++◌, length, refl, sym, ap, ◌∙◌, subst, ⊎_elim, append-nil, length-append, arith}
use Rattle.std.proofs.lemmas.List.Concat.{flat_map-append}
use Rattle.std.specs.List.{AllByRecursion}
use mathlib.Core.List.{IsPrefix}
use native.Mathlib.Decide.{dec_le}
use Rattle.lasp_histlock.proofs.Prefixes.{prefix_self, prefix_trans, prefix_whole}
use Rattle.model_versions.proofs.VersionLaws.{rising_last}
use Rattle.lasp_snap.specs.declared.entry.Entry.{Entry}
use Rattle.lasp_snap.specs.declared.shown.Shown.{Shown}
use Rattle.lasp_snap.specs.Version.{Version, IsHeldAtMost, IsSmall, MayFollow, AreRising, last_of}
use Rattle.lasp_snap.specs.Log.{offered, confirmed, shown_by, shown_in, IsTold, AreOfOne}
use Rattle.lasp_snap.specs.Rule.{published_at, IsShown, Follows}

-- an offer shows nothing
pub shown_in-offered : (log : List Entry) (v : Version) → shown_in (log ++ offered v ∷ []) ≡ shown_in log
shown_in-offered log v = flat_map-append shown_by log (offered v ∷ []) ∙ append-nil (shown_in log)

pub shown_in-confirmed : (log : List Entry) (v : Version) → shown_in (log ++ confirmed v ∷ []) ≡ shown_in log ++ v ∷ []
shown_in-confirmed log v = flat_map-append shown_by log (confirmed v ∷ [])

-- a longer log shows no less
pub shown_in-prefix : (xs ys : List Entry) → IsPrefix xs ys → IsPrefix (shown_in xs) (shown_in ys)
shown_in-prefix xs ys p = (shown_in p.0, sym (flat_map-append shown_by xs p.0) ∙ ap shown_in p.1)

-- the last elements of two lists that are one
last_same : {A : Type 0} (xs ys : List A) (a b : A) → xs ++ a ∷ [] ≡ ys ++ b ∷ [] → a ≡ b
last_same [] [] a b e = cc (e)
last_same [] (y ∷ []) a b e = absurd (cc (e))
last_same [] (y ∷ z ∷ ys) a b e = absurd (cc (e))
last_same (x ∷ []) [] a b e = absurd (cc (e))
last_same (x ∷ w ∷ xs) [] a b e = absurd (cc (e))
last_same (x ∷ xs) (y ∷ ys) a b e = last_same xs ys a b (cc (e))

-- a beginning of xs with one element more, which is shorter by one, is xs
all_but_last : {A : Type 0} (ys xs : List A) (a : A) → IsPrefix ys (xs ++ a ∷ []) → length ys ≡ length xs → ys ≡ xs
all_but_last [] [] a p same = refl
all_but_last [] (x ∷ xs) a p same = absurd (omega (arith, same))
all_but_last (y ∷ ys) [] a p same = absurd (omega (arith, same))
all_but_last (y ∷ ys) (x ∷ xs) a p same =
    let rest = all_but_last ys xs a (p.0, cc (p.1)) (omega (arith, same)) in cc (p.1, rest)

module _ (heard : List Entry) (x : Shown) (is : IsShown x) (one : AreOfOne heard x.front.log) where
  -- what was told is no longer than the log of what is shown
  as_new_longer : length heard ≤ length x.front.log → IsPrefix (shown_in heard) (published_at x)
  as_new_longer le = prefix_trans (shown_in heard) (shown_in x.front.log) (published_at x) (shown_in-prefix heard x.front.log (one.first le)) (x.version ∷ [], refl)

  -- what was told is longer by the one entry that says that the version is shown
  as_new_told : (older : List Entry) (v : Version) → heard ≡ (older ++ offered v ∷ []) ++ confirmed v ∷ [] → length heard ≡ suc (length x.front.log) → IsPrefix (shown_in heard) (published_at x)
  as_new_told older v ends more =
      let offers : List Entry = older ++ offered v ∷ [] in
      let shorter : IsPrefix x.front.log (offers ++ confirmed v ∷ []) = subst (λ l. IsPrefix x.front.log l) ends (one.second (omega (arith, more))) in
      let len : length x.front.log ≡ length offers = omega (arith, more, ap length ends, length-append offers (confirmed v ∷ [])) in
      let log_is : x.front.log ≡ offers = all_but_last x.front.log offers (confirmed v) shorter len in
      let offer_is : offered v ≡ offered x.version = last_same older is.offer.0 (offered v) (offered x.version) (sym log_is ∙ is.offer.1) in
      let version_is : v ≡ x.version = ap (λ (e : Entry). e.version) offer_is in
      let all : shown_in heard ≡ published_at x =
      ap shown_in ends ∙ (shown_in-confirmed offers v ∙ (ap (λ l. shown_in l ++ v ∷ []) (sym log_is) ∙ ap (λ w. shown_in x.front.log ++ w ∷ []) version_is)) in
      subst (λ l. IsPrefix (shown_in heard) l) all (prefix_self (shown_in heard))

  by_length : Dec (length heard ≤ length x.front.log) → length heard - 1 ≤ length x.front.log → IsTold heard → IsPrefix (shown_in heard) (published_at x)
  by_length (yes le) near told = as_new_longer le
  by_length (no not) near told = ⊎_elim
      (λ (none : heard ≡ []). subst (λ l. IsPrefix (shown_in l) (published_at x)) (sym none) (published_at x, refl))
      (λ (t : (older : List Entry) × (v : Version) × (heard ≡ (older ++ offered v ∷ []) ++ confirmed v ∷ [])). as_new_told t.0 t.1 t.2 (omega (arith, not, near)))
      told

  -- where what was told has at most one entry more than the log of what is shown, all that was told is shown
  pub as_new : length heard - 1 ≤ length x.front.log → IsTold heard → IsPrefix (shown_in heard) (published_at x)
  as_new near told = by_length (dec_le (length heard) (length x.front.log)) near told

small_last : (all : List Version) (v : Version) → AllByRecursion IsSmall all → IsSmall v → AllByRecursion IsSmall (all ++ v ∷ [])
small_last [] v h s = (s, tt)
small_last (w ∷ all) v h s = (h.0, small_last all v h.1 s)

module _ (x : Shown) (is : IsShown x) (y : Shown) (older : List Entry) (offers : y.front.log ≡ older ++ offered y.version ∷ []) (all : shown_in older ≡ published_at x) where
  -- all that is published with the next version
  pub published_at-next : published_at y ≡ published_at x ++ y.version ∷ []
  published_at-next = ap (λ l. shown_in l ++ y.version ∷ []) offers ∙ ap (λ l. l ++ y.version ∷ []) (shown_in-offered older y.version ∙ all)

  -- the next version may be shown
  pub follows : y.front.book ≡ x.front.book → y.published ≡ x.published + 1 → MayFollow (last_of (published_at x)) y.version → IsSmall y.version → Follows x y
  follows book count may small =
      let next = published_at-next in record {
        shown = record {
          count = ap length next ∙ (length-append (published_at x) (y.version ∷ []) ∙ (ap (λ n. n + 1) is.count ∙ sym count));
          rises = subst AreRising (sym next) (rising_last IsHeldAtMost (published_at x) y.version is.rises may);
          small = subst (AllByRecursion IsSmall) (sym next) (small_last (published_at x) y.version is.small small);
          offer = (older, offers);
        };
        shelf = book;
        more = (y.version ∷ [], sym next);
      }

-- all that is published with the first version
pub published_at-first : (x : Shown) → x.front.log ≡ offered x.version ∷ [] → published_at x ≡ x.version ∷ []
published_at-first x offers = ap (λ l. shown_in l ++ x.version ∷ []) offers

-- the first version may be shown
pub shows_first : (x : Shown) → x.front.log ≡ offered x.version ∷ [] → x.published ≡ 1 → IsSmall x.version → IsShown x
shows_first x offers count small =
    let all = published_at-first x offers in record {
      count = ap length all ∙ sym count;
      rises = subst AreRising (sym all) tt;
      small = subst (AllByRecursion IsSmall) (sym all) (small, tt);
      offer = ([], offers);
    }

-- the same may be shown once more
pub follows_self : (x : Shown) → IsShown x → Follows x x
follows_self x is = record { shown = is; shelf = refl; more = prefix_self (published_at x) }

pub ruleset logs = (shown_in-prefix, prefix_self, as_new, published_at-next, published_at-first, follows, shows_first, follows_self)
