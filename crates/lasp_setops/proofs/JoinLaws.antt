-- How loops that join rows in go on.
use Rattle.std.proofs.Common.{◌≡◌, ℕ, Bool, true, false, cond, if◌then◌else◌, ◌<◌, ◌≤◌, List, [], ◌∷◌, ◌++◌, map, flat_map, length, Result, Ok, Err, IsErrAnd, refl, sym, ap, subst, ◌∙◌, arith}
use Rattle.model_values.specs.Value.{Val}
use Rattle.model_values.specs.Row.{Row}
use Rattle.model_sets.specs.Rows.{IsAscending, put, join, of_rows}
use Rattle.model_sets.specs.Equations.{moved, filter_set}
use Rattle.model_sets.proofs.RowLaws.{ascending-put, ascending-join, ascending-of_rows, join-append, join-row, join-nothing, join-of_rows, join-associative, join-commutative, of_rows-ascending, mark-of_rows, same_from_mark}
use Rattle.model_sets.proofs.EquationLaws.{filter-mark, filter-ascending}
use Rattle.model_sets.proofs.LoopLaws.{length-join}
use Rattle.lasp_setops.proofs.EntryLaws.{entries-mark}
use Rattle.lasp_setops.specs.declared.refused.SetRefused.{SetRefused}
use Rattle.lasp_setops.specs.Joined.{IsJoinedUpTo}

-- one more row joined in
pub joined-row : (s : List Row) (r : Row) (t w : List Row) → IsJoinedUpTo s (r ∷ t) w → IsJoinedUpTo (put r s) t w
joined-row s r t w h = record {
  ascends = ascending-put r s h.ascends;
  all = ap (λ (u : List Row). join u t) (sym (join-row s r h.ascends)) ∙ sym (join-append s (r ∷ []) t) ∙ h.all;
}

-- many more rows joined in
pub joined-rows : (s xs t w : List Row) → IsJoinedUpTo s (xs ++ t) w → IsJoinedUpTo (join s xs) t w
joined-rows s xs t w h = record { ascends = ascending-join s xs; all = sym (join-append s xs t) ∙ h.all }

-- none left
pub joined-done : (s w : List Row) → IsJoinedUpTo s [] w → s ≡ w
joined-done s w h = sym (join-nothing s h.ascends) ∙ h.all

-- a join has at least the rows of the first state
pub length-grows : (s t : List Row) → IsAscending s → length s ≤ length (join s t)
length-grows s t up =
    let same : length (join s t) ≡ length (join s (of_rows t)) = ap length (sym (join-of_rows s t)) in
    omega (arith, same, length-join s (of_rows t) up (ascending-of_rows t))

-- what is too long so far is too long in the end
pub joined-long : (n : ℕ) (s t w : List Row) → IsJoinedUpTo s t w → n < length s → n < length w
joined-long n s t w h long = let same : length (join s t) ≡ length w = ap length h.all in omega (arith, same, length-grows s t h.ascends, long)

-- ---- the same along a pass over rows

pub first-rows : (t t' w s : List Row) → join s t' ≡ join s t → IsAscending s → w ≡ join s t → IsJoinedUpTo s t' w
first-rows t t' w s same up whole = record { ascends = up; all = same ∙ sym whole }

pub next-row : (f : Row → Row) (s t rows rest w : List Row) (r q : Row) → rows ≡ r ∷ rest → q ≡ f r → t ≡ put q s → IsJoinedUpTo s (map f rows) w → IsJoinedUpTo t (map f rest) w
next-row f s t rows rest w r q at is new h =
    subst (λ (u : List Row). IsJoinedUpTo u (map f rest) w) (sym (new ∙ ap (λ (p : Row). put p s) is)) (joined-row s (f r) (map f rest) w (subst (λ (u : List Row). IsJoinedUpTo s (map f u) w) at h))

pub long-row : (n : ℕ) (f : Row → Row) (s rows rest w : List Row) (r q : Row) → rows ≡ r ∷ rest → q ≡ f r → IsJoinedUpTo s (map f rows) w → n < length (put q s) → n < length w
long-row n f s rows rest w r q at is h long =
    joined-long n (put q s) (map f rest) w (next-row f s (put q s) rows rest w r q at is (λ i. put q s) h) long

pub next-rows : (g : Row → List Row) (s t rows rest w : List Row) (r : Row) → rows ≡ r ∷ rest → t ≡ join s (g r) → IsJoinedUpTo s (flat_map g rows) w → IsJoinedUpTo t (flat_map g rest) w
next-rows g s t rows rest w r at new h =
    subst (λ (u : List Row). IsJoinedUpTo u (flat_map g rest) w) (sym new) (joined-rows s (g r) (flat_map g rest) w (subst (λ (u : List Row). IsJoinedUpTo s (flat_map g u) w) at h))

pub long-rows : (n : ℕ) (g : Row → List Row) (s rows rest w : List Row) (r : Row) → rows ≡ r ∷ rest → IsJoinedUpTo s (flat_map g rows) w → n < length (join s (g r)) → n < length w
long-rows n g s rows rest w r at h long = joined-long n (join s (g r)) (flat_map g rest) w (next-rows g s (join s (g r)) rows rest w r at (λ i. join s (g r)) h) long

pub last-row : (f : Row → Row) (s rows w : List Row) → rows ≡ [] → IsJoinedUpTo s (map f rows) w → s ≡ w
last-row f s rows w none h = joined-done s w (subst (λ (u : List Row). IsJoinedUpTo s (map f u) w) none h)

pub last-rows : (g : Row → List Row) (s rows w : List Row) → rows ≡ [] → IsJoinedUpTo s (flat_map g rows) w → s ≡ w
last-rows g s rows w none h = joined-done s w (subst (λ (u : List Row). IsJoinedUpTo s (flat_map g u) w) none h)

-- a refusal that is passed on
pub passed-on : (r : Result (Unit {0}) SetRefused) (e t : SetRefused) → IsErrAnd r (λ x. x ≡ e) → r ≡ Err t → e ≡ t
passed-on (Ok x) e t h k = cc
passed-on (Err y) e t h k = cc

pub passed-on-set : {A : Type 0} (r : Result A SetRefused) (e t : SetRefused) → IsErrAnd r (λ x. x ≡ e) → r ≡ Err t → e ≡ t
passed-on-set (Ok x) e t h k = cc
passed-on-set (Err y) e t h k = cc

pub moved-is : (f : Val → Val) (r : Row) (v w : Val) (q : Row) → v ≡ r.0.0 → w ≡ f v → q ≡ ((w, r.0.1), r.1) → q ≡ moved f r
moved-is f r v w q is image new = new ∙ (λ i. (((image ∙ ap f is) i, r.0.1), r.1))

-- ---- rows that are kept as they are

pub first-kept : (p : Val → Bool) (s rows x : List Row) → s ≡ [] → of_rows rows ≡ x → IsAscending x → IsJoinedUpTo s (filter_set p rows) (filter_set p x)
first-kept p s rows x none is up = record {
  ascends = subst IsAscending (sym none) refl;
  all = (λ i. join (none i) (filter_set p rows))
      ∙ same_from_mark (of_rows (filter_set p rows)) (filter_set p x) (ascending-of_rows (filter_set p rows)) (filter-ascending p x up)
      (λ v t. mark-of_rows (filter_set p rows) v t ∙ filter-mark p rows v t ∙ ap (λ (m : ℕ). if p v then m else 0) (entries-mark rows x is v t) ∙ sym (filter-mark p x v t));
}

-- a row that passes goes among those so far, and one that doesn't is left out
pub next-kept : (p : Val → Bool) (s t rows rest w : List Row) (r q : Row) (v : Val) → rows ≡ r ∷ rest → v ≡ r.0.0 → p v ≡ true → q ≡ r → t ≡ put q s → IsJoinedUpTo s (filter_set p rows) w → IsJoinedUpTo t (filter_set p rest) w
next-kept p s t rows rest w r q v at is passed same new h =
    let first : filter_set p rows ≡ r ∷ filter_set p rest = ap (filter_set p) at ∙ (λ i. cond ((ap p (sym is) ∙ passed) i) (r ∷ filter_set p rest) (filter_set p rest)) in
    subst (λ (u : List Row). IsJoinedUpTo u (filter_set p rest) w) (sym (new ∙ ap (λ (z : Row). put z s) same)) (joined-row s r (filter_set p rest) w (subst (λ (u : List Row). IsJoinedUpTo s u w) first h))

pub next-left : (p : Val → Bool) (s rows rest w : List Row) (r : Row) (v : Val) → rows ≡ r ∷ rest → v ≡ r.0.0 → p v ≡ false → IsJoinedUpTo s (filter_set p rows) w → IsJoinedUpTo s (filter_set p rest) w
next-left p s rows rest w r v at is failed h =
    let first : filter_set p rows ≡ filter_set p rest = ap (filter_set p) at ∙ (λ i. cond ((ap p (sym is) ∙ failed) i) (r ∷ filter_set p rest) (filter_set p rest)) in
    subst (λ (u : List Row). IsJoinedUpTo s u w) first h

pub last-kept : (p : Val → Bool) (s rows w : List Row) → rows ≡ [] → IsJoinedUpTo s (filter_set p rows) w → s ≡ w
last-kept p s rows w none h = joined-done s w (subst (λ (u : List Row). IsJoinedUpTo s (filter_set p u) w) none h)

-- ---- what is joined into a fresh set

pub join-fresh : (s t : List Row) → s ≡ [] → IsAscending t → join s t ≡ t
join-fresh s t none up = (λ i. join (none i) t) ∙ of_rows-ascending t up

pub long-fresh : (n : ℕ) (s t : List Row) → s ≡ [] → IsAscending t → n < length (join s t) → n < length t
long-fresh n s t none up h = subst (λ (u : List Row). n < length u) (join-fresh s t none up) h

-- ---- a gain that is made of two parts and joined in at once

-- what is too long is so with more joined in
pub long-left : (n : ℕ) (s t : List Row) → IsAscending s → n < length s → n < length (join s t)
long-left n s t up h = omega (arith, h, length-grows s t up)

long-right : (n : ℕ) (s t : List Row) → IsAscending t → n < length t → n < length (join s t)
long-right n s t up h = let turned : length (join t s) ≡ length (join s t) = ap length (join-commutative t s) in omega (arith, h, turned, length-grows t s up)

pub gain-long : (n : ℕ) (old a b whole : List Row) → join (join old a) b ≡ whole → n < length (join a b) → n < length whole
gain-long n old a b whole is h = subst (λ (s : List Row). n < length s) (sym (join-associative old a b) ∙ is) (long-right n old (join a b) (ascending-join a b) h)

pub gain-joined : (gain old a b whole : List Row) → gain ≡ join a b → join (join old a) b ≡ whole → join old gain ≡ whole
gain-joined gain old a b whole made is = ap (join old) made ∙ sym (join-associative old a b) ∙ is
