-- Rows of a log that tell more, where all are live or all are dead.
use Rattle.std.proofs.Common.{◌≡◌, ℕ, ◌+◌, ◌<◌, ◌≤◌, Bool, true, false, not, if◌then◌else◌, IsTrue, List, [], ◌∷◌, ◌++◌, length, take, get_or, refl, sym, ap, ◌∙◌, append-nil, arith}
use Rattle.std.proofs.lemmas.List.{take_more}
use Rattle.std.specs.List.{list_all}
use Rattle.std.specs.Ordering.{eq_by_cmp}
use Rattle.model_values.specs.Value.{Val}
use Rattle.model_values.specs.Token.{Tok}
use Rattle.model_values.specs.Row.{Row, key_cmp}
use Rattle.model_sets.specs.Rows.{level, mark, put, of_rows}
use Rattle.model_sets.specs.Rises.{AreRises, AreApart}
use Rattle.model_sets.proofs.RowLaws.{own_mark, mark-put, and-left, and-right}
use Rattle.model_sets.proofs.RiseLaws.{level-some, none-or, rises-mark}
use Rattle.lasp_logset.proofs.KeptLaws.{apart-length}

-- rows that rise behind others rise alone
pub rises-lower : (now before log : List Row) → ((v : Val) (w : Tok) → mark now v w ≤ mark before v w) → AreRises before log → AreRises now log
rises-lower now before [] low up = tt
rises-lower now before (r ∷ log) low up = (
  omega (arith, up.0, low r.0.0 r.0.1),
  rises-lower (put r now) (put r before) log (λ v w. omega (arith, mark-put r now v w, mark-put r before v w, low v w)) up.1,
)

pub rises-alone : (before log : List Row) → AreRises before log → AreRises [] log
rises-alone before log up = rises-lower [] before log (λ v w. omega arith) up

level-at_most : (here : Bool) (a b : Bool) → a ≡ b → (if here then level a else 0) ≤ level b
level-at_most true true true e = omega arith
level-at_most true false false e = omega arith
level-at_most false a true e = omega arith
level-at_most false a false e = omega arith
level-at_most true true false e = cc
level-at_most true false true e = cc

module _ (p : Bool → Bool) (dead : Bool) (flag : (b : Bool) → IsTrue (p b) → b ≡ dead) where
  -- rows of one flag say no more than its level
  mark-all : (rows : List Row) → IsTrue (list_all (λ (r : Row). p r.1) rows) → (v : Val) (w : Tok) → mark rows v w ≤ level dead
  mark-all [] all v w = omega (arith, level-some dead)
  mark-all (r ∷ rows) all v w = omega (
    arith,
    level-at_most (eq_by_cmp key_cmp (v, w) r.0) r.1 dead (flag r.1 (and-left (p r.1) (list_all (λ (q : Row). p q.1) rows) all)),
    mark-all rows (and-right (p r.1) (list_all (λ (q : Row). p q.1) rows) all) v w,
  )

  -- rows of one flag that rise have keys of their own
  flag-apart : (before rows : List Row) → AreRises before rows → IsTrue (list_all (λ (r : Row). p r.1) rows) → AreApart rows
  flag-apart before [] up all = tt
  flag-apart before (r ∷ rows) up all =
      let here : r.1 ≡ dead = flag r.1 (and-left (p r.1) (list_all (λ (q : Row). p q.1) rows) all) in
      let rest = and-right (p r.1) (list_all (λ (q : Row). p q.1) rows) all in (
        none-or (mark rows r.0.0 r.0.1) 0 (mark rows r.0.0 r.0.1 ≡ 0)
            (λ some. absurd (omega (arith, rises-mark (put r before) rows up.1 r.0.0 r.0.1 some, mark-put r before r.0.0 r.0.1, own_mark r, mark-all rows rest r.0.0 r.0.1, ap level here)))
            (λ none. none),
        flag-apart (put r before) rows up.1 rest,
      )

dead-flag : (b : Bool) → IsTrue b → b ≡ true
dead-flag true e = refl
dead-flag false e = cc

live-flag : (b : Bool) → IsTrue (not b) → b ≡ false
live-flag true e = cc
live-flag false e = refl

pub dead-apart : (before rows : List Row) → AreRises before rows → IsTrue (list_all (λ (r : Row). r.1) rows) → AreApart rows
dead-apart = flag-apart (λ b. b) true dead-flag

pub live-apart : (before rows : List Row) → AreRises before rows → IsTrue (list_all (λ (r : Row). not r.1) rows) → AreApart rows
live-apart = flag-apart not false live-flag

-- a pass was written down as it came
pub listed : (done left all : List Row) → done ++ left ≡ all → left ≡ [] → done ≡ all
listed done left all whole none = sym (append-nil done) ∙ ap (λ (s : List Row). done ++ s) (sym none) ∙ whole

-- there are as many rows in the list as in the set
pub counted : (rows : List Row) → AreApart rows → length rows ≡ length (of_rows rows)
counted rows apart = sym (apart-length rows apart)

-- one row more of those that are shared
pub shared-more : (rows : List Row) (i : ℕ) (x r : Row) (list list' : List Row) → i < length rows → x ≡ get_or rows i x → r ≡ x → list ≡ take i rows → list' ≡ list ++ r ∷ [] → list' ≡ take (i + 1) rows
shared-more rows i x r list list' h is same before made =
    made ∙ (λ j. before j ++ same j ∷ []) ∙ ap (λ (y : Row). take i rows ++ y ∷ []) is ∙ sym (take_more rows i x h)
