-- Rows in any order go on with a log as the rows that they make do.
use Rattle.std.proofs.Common.{◌≡◌, ℕ, ◌≤◌, ◌<◌, max, if◌then◌else◌, nat_lt, List, [], ◌∷◌, ◌++◌, take, drop, sym, ap, subst, ◌∙◌, arith}
use Rattle.std.proofs.lemmas.Bool.Decides.{nat_tests}
use Rattle.model_values.specs.Value.{Val}
use Rattle.model_values.specs.Token.{Tok}
use Rattle.model_values.specs.Row.{Row}
use Rattle.model_sets.specs.Rows.{mark, put, of_rows, join}
use Rattle.model_sets.specs.Equations.{changed}
use Rattle.model_sets.specs.Rises.{AreRises, AreApart}
use Rattle.model_sets.proofs.RowLaws.{own_mark, mark-append, mark-put, mark-of_rows, mark-join, same_from_mark, ascending-of_rows, ascending-join}
use Rattle.model_sets.proofs.EquationLaws.{changed-mark}
use Rattle.model_sets.proofs.RiseLaws.{level-some, row-apart, nothing-marked, rises-append, rises-rest}
use Rattle.lasp_replica.specs.Kept.{Kept}
use Rattle.lasp_replica.specs.Parts.{AreRowsOf}

-- rows of keys that no other row has rise from a state that says less of each
apart-above : (s t : List Row) → AreApart t → ((v : Val) (w : Tok) → 0 < mark t v w → mark s v w < mark t v w) → AreRises s t
apart-above s [] apart above = tt
apart-above s (r ∷ t) apart above = (
  let some : 0 < mark (r ∷ t) r.0.0 r.0.1 = omega (arith, own_mark r, level-some r.1) in
      omega (arith, above r.0.0 r.0.1 some, own_mark r, apart.0),
  apart-above (put r s) t apart.1 (λ v w some. omega (arith, mark-put r s v w, row-apart r t apart.0 v w some, above v w (omega (arith, some)))),
)

-- rows that rise from a state rise from one that says less
rises-lower : (s t log : List Row) → ((v : Val) (w : Tok) → mark t v w ≤ mark s v w) → AreRises s log → AreRises t log
rises-lower s t [] low up = tt
rises-lower s t (r ∷ log) low up = (omega (arith, low r.0.0 r.0.1, up.0), rises-lower (put r s) (put r t) log (λ v w. omega (arith, low v w, mark-put r s v w, mark-put r t v w)) up.1)

-- the last rows of a log rise as all of them do
pub rises-last : (log last : List Row) (m : ℕ) → last ≡ drop m log → AreRises [] log → AreRises [] last
rises-last log last m is up = subst (AreRises []) (sym is) (rises-lower (of_rows (take m log)) [] (drop m log) (λ v w. omega arith) (rises-rest log m up))

-- rows that take the place of others, of which none are kept as a set
pub placed : (first rows items : List Row) → first ≡ [] → of_rows items ≡ rows → AreApart items → AreRowsOf rows (first ++ items)
placed first rows items none made apart = subst (λ (f : List Row). AreRowsOf rows (f ++ items)) (sym none) (record { made = made; apart = apart })

above-number : (m n c : ℕ) → c ≡ (if nat_lt m n then n else 0) → 0 < c → m < c
above-number m n c e some = grind (arith, nat_tests, e, some)

both-number : (m n : ℕ) → max m (if nat_lt m n then n else 0) ≡ max m n
both-number m n = grind (arith, nat_tests)

module _ (s t rows : List Row) (of : AreRowsOf (changed s t) rows) where
  -- they say of a key what is new of it
  news-mark : (v : Val) (w : Tok) → mark rows v w ≡ (if nat_lt (mark s v w) (mark t v w) then mark t v w else 0)
  news-mark v w = sym (mark-of_rows rows v w) ∙ ap (λ (z : List Row). mark z v w) of.made ∙ changed-mark s t v w

  news-more : (v : Val) (w : Tok) → max (mark s v w) (mark rows v w) ≡ max (mark s v w) (mark t v w)
  news-more v w = ap (λ (n : ℕ). max (mark s v w) n) (news-mark v w) ∙ both-number (mark s v w) (mark t v w)

-- what a log with the news says is the join
pub log-any : (log s t rows : List Row) → of_rows log ≡ s → AreRowsOf (changed s t) rows → of_rows (log ++ rows) ≡ join s t
log-any log s t rows is of = same_from_mark (of_rows (log ++ rows)) (join s t) (ascending-of_rows (log ++ rows)) (ascending-join s t)
    (λ v w. omega (
      arith,
      mark-of_rows (log ++ rows) v w,
      mark-append log rows v w,
      mark-of_rows log v w,
      ap (λ (z : List Row). mark z v w) is,
      news-more s t rows of v w,
      mark-join s t v w,
    ))

pub rises-any : (log s t rows : List Row) → AreRises [] log → of_rows log ≡ s → AreRowsOf (changed s t) rows → AreRises [] (log ++ rows)
rises-any log s t rows up is of = rises-append [] s log rows
    (λ v w. omega (arith, mark-of_rows log v w, ap (λ (z : List Row). mark z v w) is)) up
    (apart-above s rows of.apart (λ v w some. above-number (mark s v w) (mark t v w) (mark rows v w) (news-mark s t rows of v w) some))

-- no rows make none
pub none-made : (rows : List Row) → AreRowsOf [] rows → rows ≡ []
none-made rows of = nothing-marked rows (λ v w. sym (mark-of_rows rows v w) ∙ ap (λ (z : List Row). mark z v w) of.made)

-- the rows that a history has made ready make what is new
pub ready-rows : (news : List Row) (k after : Kept) → k ≡ after → of_rows after.pending ≡ news → AreApart after.pending → AreRowsOf news k.pending
ready-rows news k after here made apart = subst (λ (z : Kept). AreRowsOf news z.pending) (sym here) (record { made = made; apart = apart })
