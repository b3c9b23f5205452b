-- Rows that each raise what stands before them are exactly what changed.
use Rattle.std.proofs.Common.{◌≡◌, ℕ, zero, suc, ◌≤◌, ◌<◌, max, Bool, true, false, cond, if◌then◌else◌, nat_lt, List, [], ◌∷◌, ◌++◌, take, drop, ◌↔◌, refl, sym, ap, subst, ◌∙◌, arith}
use Rattle.std.proofs.lemmas.Bool.Decides.{nat_tests}
use Rattle.std.specs.Ordering.{eq_by_cmp}
use Rattle.std.specs.FinMap.Entries.{is_sorted, below_all}
use Rattle.model_values.specs.Value.{Val}
use Rattle.model_values.specs.Token.{Tok}
use Rattle.model_values.specs.Row.{Key, Row, key_cmp, key_exact}
use Rattle.model_sets.specs.Rows.{level, row_mark, mark, IsAscending, put, of_rows, join, IsAtMost}
use Rattle.model_sets.specs.Equations.{changed}
use Rattle.model_sets.specs.Rises.{AreRises, AreApart}
use Rattle.model_sets.proofs.RowLaws.{own_mark, and-left, and-right, is-Equal, mark-append, mark-put, mark-of_rows, mark-join, mark-below, same_from_mark, ascending-of_rows, ascending-join}
use Rattle.model_sets.proofs.EquationLaws.{changed-mark, ascending-changed}

-- ---- one row

pub level-some : (b : Bool) → 0 < level b
level-some true = omega arith
level-some false = omega arith

-- what holds of a row's key holds where the row says something
pub at-own : (P : Val → Tok → Type 0) (r : Row) (v : Val) (w : Tok) → 0 < row_mark r v w → P r.0.0 r.0.1 → P v w
at-own P r v w h p = choose (eq_by_cmp key_cmp (v, w) r.0) refl h where
  choose : (b : Bool) → eq_by_cmp key_cmp (v, w) r.0 ≡ b → 0 < (if b then level r.1 else 0) → P v w
  choose true e h = subst (λ (k : Key). P k.0 k.1) (sym (key_exact (v, w) r.0 (is-Equal (key_cmp (v, w) r.0) e))) p
  choose false e h = absurd (omega (arith, h))

-- a number is none or some
pub none-or : (m n : ℕ) (P : Type 0) → (0 < m → P) → (m ≡ 0 → P) → P
none-or zero n P some none = none refl
none-or (suc m) n P some none = some (omega arith)

pub row-rise : (s : List Row) (r : Row) → mark s r.0.0 r.0.1 < level r.1 → (v : Val) (w : Tok) → 0 < row_mark r v w → mark s v w < row_mark r v w
row-rise s r h v w some = at-own (λ u t. mark s u t < row_mark r u t) r v w some (omega (arith, h, own_mark r))

-- where rows say something that a row doesn't key
pub row-apart : (r : Row) (t : List Row) → mark t r.0.0 r.0.1 ≡ 0 → (v : Val) (w : Tok) → 0 < mark t v w → row_mark r v w ≡ 0
row-apart r t none v w some = none-or (row_mark r v w) 0 (row_mark r v w ≡ 0)
    (λ own. absurd (let gone : mark t v w ≡ 0 = at-own (λ u k. mark t u k ≡ 0) r v w own none in omega (arith, gone, some)))
    (λ e. e)

-- rows that say nothing are none
pub nothing-marked : (s : List Row) → ((v : Val) (w : Tok) → mark s v w ≡ 0) → s ≡ []
nothing-marked [] h = refl
nothing-marked (r ∷ s) h = absurd (omega (arith, h r.0.0 r.0.1, own_mark r, level-some r.1))

-- ---- rises

-- rises are told by what the state says
pub rises-alike : (s t log : List Row) → ((v : Val) (w : Tok) → mark s v w ≡ mark t v w) → AreRises s log → AreRises t log
rises-alike s t [] same up = tt
rises-alike s t (r ∷ log) same up = (omega (arith, same r.0.0 r.0.1, up.0), rises-alike (put r s) (put r t) log (λ v w. omega (arith, same v w, mark-put r s v w, mark-put r t v w)) up.1)

-- where rises say something it is more than the state said
pub rises-mark : (s log : List Row) → AreRises s log → (v : Val) (w : Tok) → 0 < mark log v w → mark s v w < mark log v w
rises-mark s [] up v w some = absurd (omega (arith, some))
rises-mark s (r ∷ log) up v w some = none-or (mark log v w) 0 (mark s v w < mark (r ∷ log) v w)
    (λ later. omega (arith, rises-mark (put r s) log up.1 v w later, mark-put r s v w))
    (λ none. omega (arith, none, some, row-rise s r up.0 v w (omega (arith, none, some))))

pub rises-append : (s t log more : List Row) → ((v : Val) (w : Tok) → mark t v w ≡ max (mark s v w) (mark log v w)) → AreRises s log → AreRises t more → AreRises s (log ++ more)
rises-append s t [] more same up then_up = rises-alike t s more (λ v w. omega (arith, same v w)) then_up
rises-append s t (r ∷ log) more same up then_up = (up.0, rises-append (put r s) t log more (λ v w. omega (arith, same v w, mark-put r s v w)) up.1 then_up)

pub rises-drop : (s t log : List Row) (m : ℕ) → ((v : Val) (w : Tok) → mark t v w ≡ max (mark s v w) (mark (take m log) v w)) → AreRises s log → AreRises t (drop m log)
rises-drop s t [] zero same up = tt
rises-drop s t [] (suc m) same up = tt
rises-drop s t (r ∷ log) zero same up = rises-alike s t (r ∷ log) (λ v w. omega (arith, same v w)) up
rises-drop s t (r ∷ log) (suc m) same up = rises-drop (put r s) t log m (λ v w. omega (arith, same v w, mark-put r s v w)) up.1

-- rows that rise from the start rise, after the first of them, from these
pub rises-rest : (log : List Row) (m : ℕ) → AreRises [] log → AreRises (of_rows (take m log)) (drop m log)
rises-rest log m up = rises-drop [] (of_rows (take m log)) log m (λ v w. omega (arith, mark-of_rows (take m log) v w)) up

-- ---- what changed

changed-number : (m n : ℕ) → (0 < n → m < n) → (if nat_lt m (max m n) then max m n else 0) ≡ n
changed-number m zero h = grind (arith, nat_tests)
changed-number m (suc n) h = let up : m < suc n = h (omega arith) in grind (arith, nat_tests, up)

-- rises are what changed by them
pub rises-changed : (s log : List Row) → AreRises s log → changed s (join s (of_rows log)) ≡ of_rows log
rises-changed s log up =
    same_from_mark (changed s (join s (of_rows log))) (of_rows log) (ascending-changed s (join s (of_rows log)) (ascending-join s (of_rows log))) (ascending-of_rows log)
    (λ v w. changed-mark s (join s (of_rows log)) v w
    ∙ ap (λ (n : ℕ). if nat_lt (mark s v w) n then n else 0) (mark-join s (of_rows log) v w ∙ ap (λ (n : ℕ). max (mark s v w) n) (mark-of_rows log v w))
    ∙ changed-number (mark s v w) (mark log v w) (rises-mark s log up v w)
    ∙ sym (mark-of_rows log v w))

-- the first rows, and the others joined in
mark-parts : (log : List Row) (m : ℕ) (v : Val) (w : Tok) → max (mark (take m log) v w) (mark (drop m log) v w) ≡ mark log v w
mark-parts [] zero v w = omega arith
mark-parts [] (suc m) v w = omega arith
mark-parts (r ∷ log) zero v w = omega arith
mark-parts (r ∷ log) (suc m) v w = omega (arith, mark-parts log m v w)

pub join-parts : (log : List Row) (m : ℕ) → join (of_rows (take m log)) (of_rows (drop m log)) ≡ of_rows log
join-parts log m = same_from_mark (join (of_rows (take m log)) (of_rows (drop m log))) (of_rows log) (ascending-join (of_rows (take m log)) (of_rows (drop m log))) (ascending-of_rows log)
    (λ v w. omega (arith, mark-join (of_rows (take m log)) (of_rows (drop m log)) v w, mark-of_rows (take m log) v w, mark-of_rows (drop m log) v w, mark-of_rows log v w, mark-parts log m v w))

-- what came after the first rows is what changed since
pub rest-changed : (log : List Row) (m : ℕ) → AreRises [] log → of_rows (drop m log) ≡ changed (of_rows (take m log)) (of_rows log)
rest-changed log m up =
    sym (rises-changed (of_rows (take m log)) (drop m log) (rises-rest log m up))
    ∙ ap (λ (t : List Row). changed (of_rows (take m log)) t) (join-parts log m)

-- ---- what is new

-- rows of keys that no other row has rise, from any state that has none of their keys
pub apart-rises : (s t : List Row) → AreApart t → ((v : Val) (w : Tok) → 0 < mark t v w → mark s v w ≡ 0) → AreRises s t
apart-rises s [] apart none = tt
apart-rises s (r ∷ t) apart none = (
  omega (arith, none r.0.0 r.0.1 (omega (arith, own_mark r, level-some r.1)), level-some r.1),
  apart-rises (put r s) t apart.1 (λ v w some. omega (arith, mark-put r s v w, row-apart r t apart.0 v w some, none v w (omega (arith, some)))),
)

pub ascending-apart : (s : List Row) → IsAscending s → AreApart s
ascending-apart [] up = tt
ascending-apart (r ∷ s) up = (mark-below r.0 s (and-left (below_all key_cmp r.0 s) (is_sorted key_cmp s) up), ascending-apart s (and-right (below_all key_cmp r.0 s) (is_sorted key_cmp s) up))

pub ascending-rises : (t : List Row) → IsAscending t → AreRises [] t
ascending-rises t up = apart-rises [] t (ascending-apart t up) (λ v w some. refl)

-- of rows that rise those that are more than a state has rise, also from a state that says no more than both
news-rise : (s before now log : List Row) → AreRises before log → ((v : Val) (w : Tok) → mark now v w ≤ max (mark s v w) (mark before v w)) → AreRises now (changed s log)
news-rise s before now [] up low = tt
news-rise s before now (r ∷ log) up low = choose (nat_lt (mark s r.0.0 r.0.1) (level r.1)) refl (λ next g. news-rise s (put r before) next log up.1 g) where
  choose : (b : Bool) → nat_lt (mark s r.0.0 r.0.1) (level r.1) ≡ b
      → ((next : List Row) → ((v : Val) (w : Tok) → mark next v w ≤ max (mark s v w) (mark (put r before) v w)) → AreRises next (changed s log)) → AreRises now (cond b (r ∷ changed s log) (changed s log))
  choose true e rest = (
    let here : mark s r.0.0 r.0.1 < level r.1 = grind (arith, nat_tests, e) in
        omega (arith, here, up.0, low r.0.0 r.0.1),
    rest (put r now) (λ v w. omega (arith, mark-put r now v w, mark-put r before v w, low v w)),
  )
  choose false e rest = rest now (λ v w. omega (arith, mark-put r before v w, low v w))

-- what is new of a log that rises, rises
pub news-rises : (s log : List Row) → AreRises [] log → AreRises s (changed s log)
news-rises s log up = news-rise s [] s log up (λ v w. omega arith)

pub changed-rises : (s t : List Row) → IsAscending t → AreRises s (changed s t)
changed-rises s t up = news-rises s t (ascending-rises t up)

join-number : (m n : ℕ) → max m (if nat_lt m n then n else 0) ≡ max m n
join-number m n = grind (arith, nat_tests)

changed-more : (s t : List Row) (v : Val) (w : Tok) → max (mark s v w) (mark (changed s t) v w) ≡ max (mark s v w) (mark t v w)
changed-more s t v w = ap (λ (n : ℕ). max (mark s v w) n) (changed-mark s t v w) ∙ join-number (mark s v w) (mark t v w)

-- joining what is new is joining all
pub join-news : (s t : List Row) → join s (changed s t) ≡ join s t
join-news s t = same_from_mark (join s (changed s t)) (join s t) (ascending-join s (changed s t)) (ascending-join s t)
    (λ v w. mark-join s (changed s t) v w ∙ changed-more s t v w ∙ sym (mark-join s t v w))

-- what a log with the news says is the join
pub log-news : (log s t : List Row) → of_rows log ≡ s → of_rows (log ++ changed s t) ≡ join s t
log-news log s t is = same_from_mark (of_rows (log ++ changed s t)) (join s t) (ascending-of_rows (log ++ changed s t)) (ascending-join s t)
    (λ v w. omega (
      arith,
      mark-of_rows (log ++ changed s t) v w,
      mark-append log (changed s t) v w,
      mark-of_rows log v w,
      ap (λ (z : List Row). mark z v w) is,
      changed-more s t v w,
      mark-join s t v w,
    ))

pub rises-news : (log s t : List Row) → IsAscending t → AreRises [] log → of_rows log ≡ s → AreRises [] (log ++ changed s t)
rises-news log s t asc up is = rises-append [] s log (changed s t)
    (λ v w. omega (arith, mark-of_rows log v w, ap (λ (z : List Row). mark z v w) is)) up (changed-rises s t asc)

-- nothing is new where the second state is at most the first
nothing-number : (m n : ℕ) → 0 ≡ (if nat_lt m n then n else 0) → n ≤ m
nothing-number m n e = grind (arith, nat_tests, e)

still-number : (m n : ℕ) → n ≤ m → (if nat_lt m n then n else 0) ≡ 0
still-number m n h = grind (arith, nat_tests, h)

pub nothing-changed : (s t : List Row) → (changed s t ≡ []) ↔ IsAtMost t s
nothing-changed s t = (
  λ e v w. nothing-number (mark s v w) (mark t v w) (ap (λ (z : List Row). mark z v w) (sym e) ∙ changed-mark s t v w),
  λ low. nothing-marked (changed s t) (λ v w. changed-mark s t v w ∙ still-number (mark s v w) (mark t v w) (low v w)),
)

-- ---- one log behind another

pub changed-alike : (s s' t : List Row) → ((v : Val) (w : Tok) → mark s v w ≡ mark s' v w) → changed s t ≡ changed s' t
changed-alike s s' [] same = refl
changed-alike s s' (r ∷ t) same =
    ap (λ (n : ℕ). cond (nat_lt n (level r.1)) (r ∷ changed s t) (changed s t)) (same r.0.0 r.0.1)
    ∙ ap (λ (rest : List Row). cond (nat_lt (mark s' r.0.0 r.0.1) (level r.1)) (r ∷ rest) rest) (changed-alike s s' t same)

-- rows that rise from what a log says go on with it
pub rises-behind : (log more : List Row) → AreRises [] log → AreRises log more → AreRises [] (log ++ more)
rises-behind log more up then_up = rises-append [] log log more (λ v w. omega arith) up then_up

pub rises-joined : (log more : List Row) → AreRises [] log → AreRises [] more → AreRises [] (log ++ changed log more)
rises-joined log more up next = rises-behind log (changed log more) up (news-rises log more next)

pub log-joined : (log more : List Row) → of_rows (log ++ changed log more) ≡ join (of_rows log) (of_rows more)
log-joined log more = same_from_mark (of_rows (log ++ changed log more)) (join (of_rows log) (of_rows more)) (ascending-of_rows (log ++ changed log more)) (ascending-join (of_rows log) (of_rows more))
    (λ v w. omega (
      arith,
      mark-of_rows (log ++ changed log more) v w,
      mark-append log (changed log more) v w,
      changed-more log more v w,
      mark-join (of_rows log) (of_rows more) v w,
      mark-of_rows log v w,
      mark-of_rows more v w,
    ))

pub ruleset rises = (rest-changed, ascending-rises, rises-joined, log-joined)
