-- Live rows by their places and by their marks, and what buries them.
use Rattle.std.proofs.Common.{◌≡◌, ◌≢◌, ℕ, zero, suc, ◌+◌, ◌<◌, ◌≤◌, ◌==◌, max, Bool, true, false, not, if◌then◌else◌, nat_lt, IsTrue, List, [], ◌∷◌, ◌++◌, length, slice_get, ◌↔◌, refl, sym, ap, subst, ◌∙◌, arith, Some}
use Rattle.std.proofs.lemmas.Bool.Decides.{nat_tests}
use Rattle.std.specs.Ordering.{is_eq, eq_by_cmp}
use Rattle.std.specs.Option.{unwrap_or}
use Rattle.std.specs.List.{list_any}
use Rattle.std.specs.Cmp.{tied_itself}
use Rattle.model_values.specs.Value.{Val, val_cmp, val_total, val_exact}
use Rattle.model_values.specs.Token.{Tok}
use Rattle.model_values.specs.Row.{Key, Row, key_cmp, key_exact}
use Rattle.model_sets.specs.Rows.{level, row_mark, mark, of_rows, join, remove_delta}
use Rattle.model_sets.specs.Equations.{changed}
use Rattle.model_sets.specs.Rises.{AreApart}
use Rattle.model_sets.specs.Reads.{is_row_of, HasRowOf}
use Rattle.model_sets.proofs.ReadLaws.{row-words}
use Rattle.model_sets.specs.Values.{IsHeld, visible}
use Rattle.model_sets.proofs.RowLaws.{own_mark, is-Equal, mark-small, mark-of_rows, mark-join, same_from_mark, ascending-of_rows, ascending-join, of_rows-ascending}
use Rattle.model_sets.proofs.RiseLaws.{at-own, none-or, row-apart, log-joined}
use Rattle.model_sets.proofs.UpdateLaws.{remove-mark}
use Rattle.model_sets.proofs.WordLaws.{visible-live}
use Rattle.lasp_logset.specs.Kept.{AreKept}
use Rattle.lasp_logset.specs.Live.{IsLiveRow, AreBuried, IsLeft, IsBuriedRow}

-- ---- places and marks

pub some-inj : {X : Type 0} (x y : X) → Some x ≡ Some y → x ≡ y
some-inj x y e = ap (λ o. unwrap_or o x) e

pub got-within : {X : Type 0} (xs : List X) (i : ℕ) (x : X) → slice_get xs i ≡ Some x → i < length xs
got-within [] i x e = cc
got-within (y ∷ xs) zero x e = omega arith
got-within (y ∷ xs) (suc i) x e = omega (arith, got-within xs i x e)

mark-first : (r q : Row) (rows : List Row) → r ≡ q → mark rows r.0.0 r.0.1 ≡ 0 → mark (r ∷ rows) q.0.0 q.0.1 ≡ level q.1
mark-first r q rows is none = subst (λ (p : Row). mark (r ∷ rows) p.0.0 p.0.1 ≡ level p.1) is (omega (arith, own_mark r, none))

live-mark : (rows : List Row) (i : ℕ) (v : Val) (t : Tok) → AreApart rows → slice_get rows i ≡ Some ((v, t), false) → mark rows v t ≡ 1
live-mark [] i v t apart at = cc
live-mark (r ∷ rows) zero v t apart at = mark-first r ((v, t), false) rows (some-inj r ((v, t), false) at) apart.0
live-mark (r ∷ rows) (suc i) v t apart at =
    let rest = live-mark rows i v t apart.1 at in
    omega (arith, rest, row-apart r rows apart.0 v t (omega (arith, rest)))

only-live : (b : Bool) (m : ℕ) → max (level b) m ≡ 1 → b ≡ false
only-live true m e = absurd (omega (arith, e))
only-live false m e = refl

mark-live : (rows : List Row) (v : Val) (t : Tok) → mark rows v t ≡ 1 → (i : ℕ) × (slice_get rows i ≡ Some ((v, t), false))
mark-live [] v t e = absurd (omega (arith, e))
mark-live (r ∷ rows) v t e = choose (eq_by_cmp key_cmp (v, t) r.0) refl (λ h. mark-live rows v t h) e where
  choose : (b : Bool) → eq_by_cmp key_cmp (v, t) r.0 ≡ b → (mark rows v t ≡ 1 → (i : ℕ) × (slice_get rows i ≡ Some ((v, t), false))) → max (if b then level r.1 else 0) (mark rows v t) ≡ 1
      → (i : ℕ) × (slice_get (r ∷ rows) i ≡ Some ((v, t), false))
  choose true same rest h =
      let key : r.0 ≡ (v, t) = sym (key_exact (v, t) r.0 (is-Equal (key_cmp (v, t) r.0) same)) in
      let alive : r.1 ≡ false = only-live r.1 (mark rows v t) h in
      (0, λ i. Some (key i, alive i))
  choose false same rest h = let later = rest (omega (arith, h)) in (suc later.0, later.1)

-- ---- tests

pub value-tests : (u v : Val) (b : Bool) → b ≡ eq_by_cmp val_cmp u v → (IsTrue b → u ≡ v) × (u ≡ v → IsTrue b)
value-tests u v b is = (
  λ h. val_exact u v (is-Equal (val_cmp u v) (sym is ∙ h)),
  λ same. is ∙ subst (λ (w : Val). eq_by_cmp val_cmp u w ≡ true) same (ap is_eq (tied_itself val_total u)),
)

not-dead : (dead : Bool) → IsTrue (not dead) → dead ≡ false
not-dead true h = cc
not-dead false h = refl

pub live-here : (rows : List Row) (place : ℕ) (k : Key) (dead : Bool) (v : Val) → Some (k, dead) ≡ slice_get rows place → k.0 ≡ v → (IsTrue (not dead) → IsLiveRow rows v place) × (IsLiveRow rows v place → IsTrue (not dead))
live-here rows place k dead v at of = (
  λ h. let alive : dead ≡ false = not-dead dead h in (k.1, sym at ∙ (λ i. Some ((of i, k.1), alive i))),
  λ live. ap (λ (r : Row). not r.1) (some-inj (k, dead) ((v, live.0), false) (at ∙ live.1)),
)

pub next-place : (rows : List Row) (v : Val) (place : ℕ) (b : Bool) → (IsLiveRow rows v place → IsTrue b) → b ≡ false → (i : ℕ) → IsLiveRow rows v i → place ≤ i → place + 1 ≤ i
next-place rows v place b test not_it i live low =
    let other : i ≢ place = λ same. (let yes_it : true ≡ false = sym (test (subst (IsLiveRow rows v) same live)) ∙ not_it in cc) in
    omega (arith, other, low)

pub live-within : (rows : List Row) (v : Val) (i : ℕ) → IsLiveRow rows v i → i < length rows
live-within rows v i live = got-within rows i ((v, live.0), false) live.1

-- ---- what is asked of a value

pub has-words : (rows log : List Row) (v : Val) (b : Bool) → AreKept rows log → AreApart rows → (IsTrue b → (i : ℕ) × IsLiveRow rows v i) → (b ≡ false → (i : ℕ) → IsLiveRow rows v i → ⊥)
    → (IsTrue b → IsHeld (visible (of_rows log)) v) × (IsHeld (visible (of_rows log)) v → IsTrue b)
has-words rows log v b kept apart some none = (
  λ h.
      let found = some h in
      (visible-live (of_rows log) (ascending-of_rows log) v).1
      (found.1.0, omega (arith, mark-of_rows log v found.1.0, kept.marks v found.1.0, live-mark rows found.0 v found.1.0 apart found.1.1)),
  λ held.
      let live = (visible-live (of_rows log) (ascending-of_rows log) v).0 held in
      let place = mark-live rows v live.0 (omega (arith, live.1, mark-of_rows log v live.0, kept.marks v live.0)) in
      answer b refl place.0 (live.0, place.1),
) where
  answer : (c : Bool) → b ≡ c → (i : ℕ) → IsLiveRow rows v i → IsTrue b
  answer true is i live = is
  answer false is i live = absurd (none is i live)

-- the value has a row, by any rows of the same state
same-words : (s t : List Row) (v : Val) (dead : Bool) → of_rows s ≡ of_rows t → HasRowOf s v dead → HasRowOf t v dead
same-words s t v dead same has = choose dead has where
  alike : (w : Tok) → mark s v w ≡ mark t v w
  alike w = sym (mark-of_rows s v w) ∙ ap (λ (r : List Row). mark r v w) same ∙ mark-of_rows t v w

  choose : (d : Bool) → HasRowOf s v d → HasRowOf t v d
  choose true h = (h.0, sym (alike h.0) ∙ h.1)
  choose false h = (h.0, omega (arith, h.1, alike h.0))

pub has_row-words : (near log : List Row) (v : Val) (dead b : Bool) → of_rows near ≡ of_rows log → b ≡ list_any (is_row_of v dead) near → (IsTrue b → HasRowOf log v dead) × (HasRowOf log v dead → IsTrue b)
has_row-words near log v dead b same is =
    let words = row-words v dead near b is in
    (λ h. same-words near log v dead same (words.0 h), λ h. words.1 (same-words log near v dead (sym same) h))

-- the state of a log has the rows that the log has
pub has_row-log : (log there : List Row) (v : Val) (dead b : Bool) → there ≡ log → (IsTrue b ↔ HasRowOf there v dead) → (IsTrue b → HasRowOf (of_rows log) v dead) × (HasRowOf (of_rows log) v dead → IsTrue b)
has_row-log log there v dead b is told =
    let same : of_rows there ≡ of_rows (of_rows log) = ap of_rows is ∙ sym (of_rows-ascending (of_rows log) (ascending-of_rows log)) in
    (λ h. same-words there (of_rows log) v dead same (told.0 h), λ h. told.1 (same-words (of_rows log) there v dead (sym same) h))

-- ---- rows that are buried

mark-added : (s : List Row) (r : Row) (u : Val) (t : Tok) → mark (s ++ changed s (r ∷ [])) u t ≡ max (mark s u t) (row_mark r u t)
mark-added s r u t =
    let joined = ap (λ (x : List Row). mark x u t) (log-joined s (r ∷ [])) in
    omega (arith, joined, mark-of_rows (s ++ changed s (r ∷ [])) u t, mark-join (of_rows s) (of_rows (r ∷ [])) u t, mark-of_rows s u t, mark-of_rows (r ∷ []) u t)

pub buried-none : (rows : List Row) (v : Val) → AreBuried rows v []
buried-none rows v = record { dead = λ u t has. absurd (omega (arith, has)); live = λ u t has. absurd (omega (arith, has)) }

made-marks : (rows delta delta' : List Row) (v : Val) (place : ℕ) (b : IsBuriedRow rows v place delta delta') (u : Val) (w : Tok) → mark delta' u w ≡ max (mark delta u w) (row_mark ((v, b.token), true) u w)
made-marks rows delta delta' v place b u w = ap (λ (x : List Row). mark x u w) b.made ∙ mark-added delta ((v, b.token), true) u w

pub buried-more : (rows delta delta' : List Row) (v : Val) (place : ℕ) → IsBuriedRow rows v place delta delta' → AreBuried rows v delta → AreBuried rows v delta'
buried-more rows delta delta' v place b before = record {
  dead = λ u w has. none-or (row_mark ((v, b.token), true) u w) 0 (mark delta' u w ≡ 2)
      (λ some. omega (arith, made u w, two u w some, mark-small delta u w))
      (λ none. omega (arith, made u w, none, before.dead u w (omega (arith, has, made u w, none))));
  live = λ u w has. none-or (row_mark ((v, b.token), true) u w) 0 ((i : ℕ) × (u ≡ v) × (slice_get rows i ≡ Some ((v, w), false)))
      (λ some. at-own (λ (x : Val) (y : Tok). (i : ℕ) × (x ≡ v) × (slice_get rows i ≡ Some ((v, y), false))) ((v, b.token), true) u w some (place, refl, b.at))
      (λ none. before.live u w (omega (arith, has, made u w, none)));
} where
  made : (u : Val) (w : Tok) → mark delta' u w ≡ max (mark delta u w) (row_mark ((v, b.token), true) u w)
  made u w = made-marks rows delta delta' v place b u w

  two : (u : Val) (w : Tok) → 0 < row_mark ((v, b.token), true) u w → row_mark ((v, b.token), true) u w ≡ 2
  two u w some = at-own (λ (x : Val) (y : Tok). row_mark ((v, b.token), true) x y ≡ 2) ((v, b.token), true) u w some (own_mark ((v, b.token), true))

-- what is left after a row was buried was left before, and isn't that row
pub left-before : (rows delta delta' : List Row) (v : Val) (place : ℕ) → IsBuriedRow rows v place delta delta' → (i : ℕ) → IsLeft rows v delta' i → IsLeft rows v delta i × (i ≢ place)
left-before rows delta delta' v place b i left = (
  (left.0, left.1, omega (arith, left.2, made-marks rows delta delta' v place b v left.0)),
  λ same.
      let one : ((v, left.0), false) ≡ ((v, b.token), false) = some-inj ((v, left.0), false) ((v, b.token), false) (sym left.1 ∙ ap (λ (n : ℕ). slice_get rows n) same ∙ b.at) in
      let here : row_mark ((v, b.token), true) v left.0 ≡ 2 = subst (λ (r : Row). row_mark ((v, b.token), true) r.0.0 r.0.1 ≡ 2) (sym one) (own_mark ((v, b.token), true)) in
      omega (arith, left.2, made-marks rows delta delta' v place b v left.0, here),
)

pub bury-row : (rows delta delta' : List Row) (v : Val) (place : ℕ) (k : Key) (dead : Bool) (e : Row) → IsLiveRow rows v place → Some (k, dead) ≡ slice_get rows place → e ≡ (k, true) → delta' ≡ delta ++ changed delta (e ∷ [])
    → IsBuriedRow rows v place delta delta'
bury-row rows delta delta' v place k dead e live at is made =
    let key : k ≡ (v, live.0) = ap (λ (r : Row). r.0) (some-inj (k, dead) ((v, live.0), false) (at ∙ live.1)) in
    let entry : e ≡ ((v, live.0), true) = is ∙ ap (λ (l : Key). (l, true)) key in
    record { token = live.0; at = live.1; made = made ∙ ap (λ (r : Row). delta ++ changed delta (r ∷ [])) entry }

-- where all before a place are done with, what is left stands from there on
pub left-behind : (i n b : ℕ) → (i < n → i < b) → b ≡ 0 → n ≤ i
left-behind i n b before done = by (nat_lt i n) refl where
  by : (c : Bool) → nat_lt i n ≡ c → n ≤ i
  by true e = let low : i < b = before (grind (arith, nat_tests, e)) in absurd (omega (arith, low, done))
  by false e = grind (arith, nat_tests, e)

not-below : (s m : ℕ) → nat_lt s m ≡ false → m ≤ s
not-below s m e = grind (arith, nat_tests, e)

-- a row that neither a chain nor a pass over the rest found isn't there
pub none-live : (rows : List Row) (v : Val) (i n b s : ℕ) → IsLiveRow rows v i → (i < n → i < b) → b ≡ 0 → (n ≤ i → s ≤ i) → nat_lt s (length rows) ≡ false → ⊥
none-live rows v i n b s live before done passed past =
    let low : s ≤ i = passed (left-behind i n b before done) in
    omega (arith, low, live-within rows v i live, not-below s (length rows) past)

pub removed-marks : (rows log delta : List Row) (v : Val) → AreKept rows log → AreApart rows → AreBuried rows v delta → ((i : ℕ) → IsLeft rows v delta i → ⊥)
    → (u : Val) (t : Tok) → mark delta u t ≡ (if eq_by_cmp val_cmp v u then (if mark log u t == 1 then 2 else 0) else 0)
removed-marks rows log delta v kept apart buried none_left u t = choose (eq_by_cmp val_cmp v u) refl where
  here : (m : ℕ) → mark log v t ≡ m → mark delta v t ≡ (if m == 1 then 2 else 0)
  here zero e = none-or (mark delta v t) 0 (mark delta v t ≡ 0) (λ some. let live = buried.live v t some in absurd (omega (arith, e, kept.marks v t, live-mark rows live.0 v t apart live.2))) (λ none. none)
  here (suc zero) e =
      let live = mark-live rows v t (omega (arith, e, kept.marks v t)) in
      let done : mark delta v t ≢ 0 = λ none. none_left live.0 (t, live.1, omega (arith, none)) in
      buried.dead v t (omega (arith, done))
  here (suc (suc zero)) e = none-or (mark delta v t) 0 (mark delta v t ≡ 0) (λ some. let live = buried.live v t some in absurd (omega (arith, e, kept.marks v t, live-mark rows live.0 v t apart live.2))) (λ none. none)
  here (suc (suc (suc m))) e = absurd (omega (arith, e, mark-small log v t))

  choose : (b : Bool) → eq_by_cmp val_cmp v u ≡ b → mark delta u t ≡ (if b then (if mark log u t == 1 then 2 else 0) else 0)
  choose true same = subst (λ (w : Val). mark delta w t ≡ (if mark log w t == 1 then 2 else 0)) (val_exact v u (is-Equal (val_cmp v u) same)) (here (mark log v t) refl)
  choose false same = none-or (mark delta u t) 0 (mark delta u t ≡ 0)
      (λ some. absurd (
      let one : u ≡ v = (buried.live u t some).1 in
      let tied : eq_by_cmp val_cmp v u ≡ true = subst (λ (w : Val). eq_by_cmp val_cmp v w ≡ true) (sym one) (ap is_eq (tied_itself val_total v)) in
      let clash : true ≡ false = sym tied ∙ same in cc))
      (λ none. none)

live-only : (m : ℕ) (b : Bool) → m ≤ 2 → max m (if b then (if m == 1 then 2 else 0) else 0) ≡ max m (if b then (if m == 0 then 0 else 2) else 0)
live-only zero true h = refl
live-only zero false h = refl
live-only (suc zero) true h = refl
live-only (suc zero) false h = refl
live-only (suc (suc zero)) true h = refl
live-only (suc (suc zero)) false h = refl
live-only (suc (suc (suc m))) b h = absurd (omega (arith, h))

-- the dead ones make no difference
pub removed-join : (log delta : List Row) (v : Val) → ((u : Val) (t : Tok) → mark delta u t ≡ (if eq_by_cmp val_cmp v u then (if mark log u t == 1 then 2 else 0) else 0)) → join (of_rows log) delta ≡ join (of_rows log) (remove_delta v (of_rows log))
removed-join log delta v marks = same_from_mark (join (of_rows log) delta) (join (of_rows log) (remove_delta v (of_rows log))) (ascending-join (of_rows log) delta) (ascending-join (of_rows log) (remove_delta v (of_rows log)))
    (λ u t. mark-join (of_rows log) delta u t
    ∙ ap (λ (m : ℕ). max (mark (of_rows log) u t) m) (marks u t ∙ ap (λ (m : ℕ). if eq_by_cmp val_cmp v u then (if m == 1 then 2 else 0) else 0) (sym (mark-of_rows log u t)))
    ∙ live-only (mark (of_rows log) u t) (eq_by_cmp val_cmp v u) (mark-small (of_rows log) u t)
    ∙ ap (λ (m : ℕ). max (mark (of_rows log) u t) m) (sym (remove-mark v (of_rows log) u t))
    ∙ sym (mark-join (of_rows log) (remove_delta v (of_rows log)) u t))
