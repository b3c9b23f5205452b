-- The rows of one value from the newest back: what a pass along them has.
use Rattle.std.proofs.Common.{◌≡◌, ◌≢◌, ℕ, zero, suc, ◌+◌, ◌-◌, ◌<◌, ◌≤◌, max, Bool, true, false, cond, if◌then◌else◌, nat_lt, List, [], ◌∷◌, ◌++◌, length, take, filter, slice_get, Option, Some, None, refl, sym, ap, subst, ◌∙◌, arith}
use Rattle.std.proofs.lemmas.Bool.Decides.{nat_tests}
use Rattle.std.specs.Ordering.{is_eq, eq_by_cmp}
use Rattle.std.specs.Cmp.{tied_itself}
use Rattle.model_values.specs.Value.{Val, val_cmp, val_total, val_exact}
use Rattle.model_values.specs.Token.{Tok}
use Rattle.model_values.specs.Row.{Row}
use Rattle.model_sets.specs.Rows.{mark, of_rows, is_of, IsAtMost}
use Rattle.model_sets.specs.Equations.{filter_set}
use Rattle.model_sets.specs.Rises.{AreApart}
use Rattle.model_sets.proofs.RowLaws.{own_mark, is-Equal, mark-append, mark-of_rows, same_from_mark, ascending-of_rows}
use Rattle.model_sets.proofs.EquationLaws.{filter-mark, filter-ascending}
use Rattle.model_sets.proofs.RiseLaws.{level-some, row-apart}
use Rattle.lasp_logset.specs.Places.{IsRowOf, row_at, near}
use Rattle.lasp_logset.proofs.LiveLaws.{some-inj}

-- ---- rows at places

-- one row more of the first ones
mark-next : (rows : List Row) (b : ℕ) (v : Val) (w : Tok) → mark (take (suc b) rows) v w ≡ max (mark (row_at (slice_get rows b)) v w) (mark (take b rows) v w)
mark-next [] zero v w = omega arith
mark-next [] (suc b) v w = omega arith
mark-next (r ∷ rows) zero v w = omega arith
mark-next (r ∷ rows) (suc b) v w = omega (arith, mark-next rows b v w)

-- a row's key isn't among those before it, where no two rows have one
apart-before : (rows : List Row) (b : ℕ) (r : Row) → AreApart rows → slice_get rows b ≡ Some r → mark (take b rows) r.0.0 r.0.1 ≡ 0
apart-before [] zero r apart at = cc
apart-before [] (suc b) r apart at = cc
apart-before (q ∷ rows) zero r apart at = refl
apart-before (q ∷ rows) (suc b) r apart at =
    omega (arith, apart-before rows b r apart.1 at, row-apart q rows apart.0 r.0.0 r.0.1 (marked rows b r at)) where
      marked : (rows : List Row) (b : ℕ) (r : Row) → slice_get rows b ≡ Some r → 0 < mark rows r.0.0 r.0.1
      marked [] zero r at = cc
      marked [] (suc b) r at = cc
      marked (q ∷ rows) zero r at = subst (λ (p : Row). 0 < mark (p ∷ rows) r.0.0 r.0.1) (sym (some-inj q r at)) (omega (arith, own_mark r, level-some r.1))
      marked (q ∷ rows) (suc b) r at = omega (arith, marked rows b r at)

-- ---- a pass

near-mark : (v : Val) (rows : List Row) (b : ℕ) (u : Val) (w : Tok) → mark (near v rows b) u w ≡ (if eq_by_cmp val_cmp v u then mark (take b rows) u w else 0)
near-mark v rows zero u w = elim (eq_by_cmp val_cmp v u) as (λ c. ◌≡◌ {A = ℕ} 0 (if c then 0 else 0)) [ true ↦ refl | false ↦ refl ]
near-mark v rows (suc b) u w =
    mark-append (filter (is_of v) (row_at (slice_get rows b))) (near v rows b) u w
    ∙ (λ i. max (filter-mark (eq_by_cmp val_cmp v) (row_at (slice_get rows b)) u w i) (near-mark v rows b u w i))
    ∙ both (eq_by_cmp val_cmp v u)
    ∙ ap (λ (m : ℕ). if eq_by_cmp val_cmp v u then m else 0) (sym (mark-next rows b u w)) where
      both : (c : Bool) → max (if c then mark (row_at (slice_get rows b)) u w else 0) (if c then mark (take b rows) u w else 0) ≡ (if c then max (mark (row_at (slice_get rows b)) u w) (mark (take b rows) u w) else 0)
      both true = refl
      both false = refl

take-low : (rows : List Row) (b : ℕ) (u : Val) (w : Tok) → mark (take b rows) u w ≤ mark rows u w
take-low [] zero u w = omega arith
take-low [] (suc b) u w = omega arith
take-low (r ∷ rows) zero u w = omega arith
take-low (r ∷ rows) (suc b) u w = omega (arith, take-low rows b u w)

low-if : (c : Bool) (m n : ℕ) → m ≤ n → (if c then m else 0) ≤ n
low-if true m n low = low
low-if false m n low = omega arith

-- a pass has no others than the set
pub near-within : (v : Val) (rows log : List Row) (b : ℕ) → of_rows rows ≡ of_rows log → IsAtMost (near v rows b) log
near-within v rows log b is u w =
    let alike : mark rows u w ≡ mark log u w = sym (mark-of_rows rows u w) ∙ ap (λ (s : List Row). mark s u w) is ∙ mark-of_rows log u w in
    subst (λ (m : ℕ). m ≤ mark log u w) (sym (near-mark v rows b u w)) (low-if (eq_by_cmp val_cmp v u) (mark (take b rows) u w) (mark log u w) (omega (arith, take-low rows b u w, alike)))

less-if : (c : Bool) (n : ℕ) → n ≡ 0 → (if c then n else 0) ≡ 0
less-if true n e = e
less-if false n e = refl

pub near-apart : (v : Val) (rows : List Row) (b : ℕ) → AreApart rows → AreApart (near v rows b)
near-apart v rows zero apart = tt
near-apart v rows (suc b) apart = at (slice_get rows b) refl (near-apart v rows b apart) where
  at : (o : Option Row) → slice_get rows b ≡ o → AreApart (near v rows b) → AreApart (filter (is_of v) (row_at o) ++ near v rows b)
  at None e rest = rest
  at (Some r) e rest = choose (is_of v r) rest where
    none : mark (near v rows b) r.0.0 r.0.1 ≡ 0
    none = near-mark v rows b r.0.0 r.0.1 ∙ less-if (eq_by_cmp val_cmp v r.0.0) (mark (take b rows) r.0.0 r.0.1) (apart-before rows b r apart e)

    choose : (c : Bool) → AreApart (near v rows b) → AreApart (cond c (r ∷ []) [] ++ near v rows b)
    choose true rest = (none, rest)
    choose false rest = rest

take-all : (rows : List Row) (n : ℕ) → length rows ≤ n → take n rows ≡ rows
take-all [] zero h = refl
take-all [] (suc n) h = refl
take-all (r ∷ rows) zero h = absurd (omega (arith, h))
take-all (r ∷ rows) (suc n) h = ap (λ (s : List Row). r ∷ s) (take-all rows n (omega (arith, h)))

-- a pass over all has the value's rows
pub near-rows : (v : Val) (rows log : List Row) (b : ℕ) → of_rows rows ≡ of_rows log → length rows ≤ b → filter (is_of v) (of_rows (near v rows b)) ≡ filter (is_of v) (of_rows log)
near-rows v rows log b is whole =
    same_from_mark (filter_set (eq_by_cmp val_cmp v) (of_rows (near v rows b))) (filter_set (eq_by_cmp val_cmp v) (of_rows log)) (filter-ascending (eq_by_cmp val_cmp v) (of_rows (near v rows b)) (ascending-of_rows (near v rows b)))
    (filter-ascending (eq_by_cmp val_cmp v) (of_rows log) (ascending-of_rows log))
    (λ u w. filter-mark (eq_by_cmp val_cmp v) (of_rows (near v rows b)) u w
    ∙ ap (λ (m : ℕ). if eq_by_cmp val_cmp v u then m else 0) (mark-of_rows (near v rows b) u w ∙ near-mark v rows b u w ∙ ap (λ (s : List Row). if eq_by_cmp val_cmp v u then mark s u w else 0) (take-all rows b whole))
    ∙ twice (eq_by_cmp val_cmp v u) (mark rows u w)
    ∙ ap (λ (m : ℕ). if eq_by_cmp val_cmp v u then m else 0) (sym (mark-of_rows rows u w) ∙ ap (λ (s : List Row). mark s u w) is)
    ∙ sym (filter-mark (eq_by_cmp val_cmp v) (of_rows log) u w)) where
      twice : (c : Bool) (m : ℕ) → (if c then (if c then m else 0) else 0) ≡ (if c then m else 0)
      twice true m = refl
      twice false m = refl

-- between a row of the value and the one before it stand none of its rows
near-skip : (v : Val) (rows : List Row) (b n : ℕ) → ((i : ℕ) → IsRowOf rows v i → i < b + n → i < b) → near v rows (b + n) ≡ near v rows b
near-skip v rows b zero none = ap (near v rows) (let e : b + 0 ≡ b = omega arith in e)
near-skip v rows b (suc n) none =
    ap (near v rows) (let e : b + suc n ≡ suc (b + n) = omega arith in e)
    ∙ at (slice_get rows (b + n)) refl ∙ near-skip v rows b n (λ i row less. none i row (omega (arith, less))) where
      not_it : (r : Row) → slice_get rows (b + n) ≡ Some r → is_of v r ≡ true → ⊥
      not_it r e yes_it =
          let same : v ≡ r.0.0 = val_exact v r.0.0 (is-Equal (val_cmp v r.0.0) yes_it) in
          let row : IsRowOf rows v (b + n) = subst (λ (u : Val). IsRowOf rows u (b + n)) (sym same) (r.0.1, r.1, e) in
          omega (arith, none (b + n) row (omega arith))

      at : (o : Option Row) → slice_get rows (b + n) ≡ o → filter (is_of v) (row_at (slice_get rows (b + n))) ++ near v rows (b + n) ≡ near v rows (b + n)
      at None e = ap (λ (o : Option Row). filter (is_of v) (row_at o) ++ near v rows (b + n)) e
      at (Some r) e = ap (λ (o : Option Row). filter (is_of v) (row_at o) ++ near v rows (b + n)) e ∙ choose (is_of v r) refl where
        choose : (c : Bool) → is_of v r ≡ c → cond c (r ∷ []) [] ++ near v rows (b + n) ≡ near v rows (b + n)
        choose true yes_it = absurd (not_it r e yes_it)
        choose false no_it = refl

own-value : (v : Val) (t : Tok) (d : Bool) → is_of v ((v, t), d) ≡ true
own-value v t d = ap is_eq (tied_itself val_total v)

-- the next row of a pass, and what is left
pub near-next : (v : Val) (rows : List Row) (b k next : ℕ) (r : Row) → b ≡ suc k → slice_get rows k ≡ Some r → IsRowOf rows v k → next ≤ k → ((i : ℕ) → IsRowOf rows v i → i < k → i < next) → near v rows b ≡ r ∷ near v rows next
near-next v rows b k next r is at row falls passed =
    let here : is_of v r ≡ true = subst (λ (q : Row). is_of v q ≡ true) (some-inj ((v, row.0), row.1) r (sym row.2 ∙ at)) (own-value v row.0 row.1) in
    let parts : next + (k - next) ≡ k = omega (arith, falls) in
    ap (near v rows) is ∙ ap (λ (o : Option Row). filter (is_of v) (row_at o) ++ near v rows k) at
    ∙ ap (λ (c : Bool). cond c (r ∷ []) [] ++ near v rows k) here
    ∙ ap (λ (s : List Row). r ∷ s) (ap (near v rows) (sym parts) ∙ near-skip v rows next (k - next) (λ i there less. passed i there (omega (arith, less, parts))))

pub near-end : (v : Val) (rows : List Row) (b : ℕ) → b ≡ 0 → near v rows b ≡ []
near-end v rows b e = ap (near v rows) e

-- a pass from the newest row on has the value's rows
pub near-whole : (v : Val) (rows log : List Row) (b : ℕ) → of_rows rows ≡ of_rows log → b ≤ length rows → ((i : ℕ) → IsRowOf rows v i → i < b) → filter (is_of v) (of_rows (near v rows b)) ≡ filter (is_of v) (of_rows log)
near-whole v rows log b is within passed =
    let parts : b + (length rows - b) ≡ length rows = omega (arith, within) in
    ap (λ (s : List Row). filter (is_of v) (of_rows s)) (sym (near-skip v rows b (length rows - b) (λ i row less. passed i row)) ∙ ap (near v rows) parts) ∙ near-rows v rows log (length rows) is (omega arith)

-- ---- a pass back over rows to which no chain leads yet

-- a row before a place that isn't of the value
pub past-row : (rows : List Row) (v : Val) (i b : ℕ) → (IsRowOf rows v (b - 1) → ⊥) → IsRowOf rows v i → i < b → i < b - 1
past-row rows v i b not_it row less = let other : i ≢ b - 1 = λ same. not_it (subst (IsRowOf rows v) same row) in omega (arith, other, less)

-- the row right before a place
pub row-right : (rows : List Row) (v : Val) (b k : ℕ) → IsRowOf rows v (b - 1) → b ≡ suc k → IsRowOf rows v k
row-right rows v b k row is = let same : b - 1 ≡ k = omega (arith, is) in subst (IsRowOf rows v) same row

either-side : (i n : ℕ) (P : Type 0) → (i < n → P) → (n ≤ i → P) → P
either-side i n P low high = by (nat_lt i n) refl where
  by : (b : Bool) → nat_lt i n ≡ b → P
  by true e = low (grind (arith, nat_tests, e))
  by false e = high (grind (arith, nat_tests, e))

-- a pass that found a row has passed none
pub passed-back : (i first place behind : ℕ) → (first ≤ i → i < place → i < behind) → first < behind → i < place → i < behind
passed-back i first place behind passed found less = either-side i first (i < behind) (λ low. omega (arith, low, found)) (λ high. passed high less)

-- where it found none, the chain leads to all
pub passed-chain : (i first place behind newest : ℕ) → (first ≤ i → i < place → i < behind) → behind ≤ first → (i < first → i < newest) → i < place → i < newest
passed-chain i first place behind newest passed none chained less = either-side i first (i < newest) chained (λ high. absurd (omega (arith, passed high less, none, high)))
