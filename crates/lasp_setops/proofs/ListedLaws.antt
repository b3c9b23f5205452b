-- What is made of rows in a list, one by one.
use Rattle.std.proofs.Common.{◌≡◌, ℕ, ◌+◌, ◌<◌, Bool, true, false, cond, if◌then◌else◌, zero, suc, List, [], ◌∷◌, ◌++◌, length, map, take, get_or, refl, sym, ap, ◌∙◌, append-nil, arith}
use Rattle.std.proofs.lemmas.List.{take_more, map-append}
use Rattle.std.proofs.lemmas.List.Elements.{filter-append}
use Rattle.model_values.specs.Value.{Val}
use Rattle.model_values.specs.Row.{Row}
use Rattle.model_values.specs.Size.{HasSmallInts, IsSized}
use Rattle.model_sets.specs.Rows.{of_rows, join}
use Rattle.model_sets.specs.Equations.{moved, map_set, filter_set}
use Rattle.model_sets.proofs.RowLaws.{ascending-of_rows, join-of_rows, join-commutative, mark-of_rows, at_most-antisymmetric, same_from_mark}
use Rattle.model_sets.proofs.EquationLaws.{filter-ascending, filter-mark, map-monotone}
use Rattle.lasp_setops.specs.Width.{IsSetOfWidth}
use Rattle.lasp_setops.proofs.WidthLaws.{sized-row, width-entries}

-- ---- what stands for any rows stands for the set of them

pub map-listed : (f : Val → Val) (rows out : List Row) → out ≡ map (moved f) rows → of_rows out ≡ map_set f (of_rows rows)
map-listed f rows out is =
    ap of_rows is
    ∙ at_most-antisymmetric (map_set f rows) (map_set f (of_rows rows)) (ascending-of_rows (map (moved f) rows)) (ascending-of_rows (map (moved f) (of_rows rows)))
    (map-monotone f rows (of_rows rows) (λ v t. omega (arith, mark-of_rows rows v t)))
    (map-monotone f (of_rows rows) rows (λ v t. omega (arith, mark-of_rows rows v t)))

pub filter-listed : (p : Val → Bool) (rows out : List Row) → out ≡ filter_set p rows → of_rows out ≡ filter_set p (of_rows rows)
filter-listed p rows out is =
    ap of_rows is
    ∙ same_from_mark (of_rows (filter_set p rows)) (filter_set p (of_rows rows)) (ascending-of_rows (filter_set p rows)) (filter-ascending p (of_rows rows) (ascending-of_rows rows))
    (λ v t. mark-of_rows (filter_set p rows) v t ∙ filter-mark p rows v t ∙ ap (λ (m : ℕ). if p v then m else 0) (sym (mark-of_rows rows v t)) ∙ sym (filter-mark p (of_rows rows) v t))

pub union-listed : (a b out : List Row) → out ≡ a ++ b → of_rows out ≡ join (of_rows a) (of_rows b)
union-listed a b out is = ap of_rows is ∙ sym (join-of_rows a b) ∙ join-commutative a (of_rows b) ∙ sym (join-of_rows (of_rows b) a) ∙ join-commutative (of_rows b) (of_rows a)

-- ---- one row more

pub mapped-more : (f : Row → Row) (rows : List Row) (i : ℕ) (x q : Row) (out out' : List Row) → i < length rows → x ≡ get_or rows i x → q ≡ f x → out ≡ map f (take i rows) → out' ≡ out ++ q ∷ [] → out' ≡ map f (take (i + 1) rows)
mapped-more f rows i x q out out' h is image before made =
    made ∙ (λ j. before j ++ image j ∷ []) ∙ sym (map-append f (take i rows) (x ∷ [])) ∙ ap (λ (y : Row). map f (take i rows ++ y ∷ [])) is ∙ ap (map f) (sym (take_more rows i x h))

kept-last : (p : Val → Bool) (rows : List Row) (i : ℕ) (x : Row) → i < length rows → x ≡ get_or rows i x → filter_set p (take (i + 1) rows) ≡ filter_set p (take i rows) ++ filter_set p (x ∷ [])
kept-last p rows i x h is = ap (filter_set p) (take_more rows i x h ∙ ap (λ (y : Row). take i rows ++ y ∷ []) (sym is)) ∙ filter-append (λ r. p r.0.0) (take i rows) (x ∷ [])

pub kept-more : (p : Val → Bool) (rows : List Row) (i : ℕ) (x q : Row) (v : Val) (out out' : List Row) → i < length rows → x ≡ get_or rows i x → v ≡ x.0.0 → p v ≡ true → q ≡ x → out ≡ filter_set p (take i rows) → out' ≡ out ++ q ∷ [] → out' ≡ filter_set p (take (i + 1) rows)
kept-more p rows i x q v out out' h is of passed same before made =
    made ∙ (λ j. before j ++ same j ∷ []) ∙ (λ j. filter_set p (take i rows) ++ cond (sym (ap p (sym of) ∙ passed) j) (x ∷ []) []) ∙ sym (kept-last p rows i x h is)

pub kept-as_before : (p : Val → Bool) (rows : List Row) (i : ℕ) (x : Row) (v : Val) (out : List Row) → i < length rows → x ≡ get_or rows i x → v ≡ x.0.0 → p v ≡ false → out ≡ filter_set p (take i rows) → out ≡ filter_set p (take (i + 1) rows)
kept-as_before p rows i x v out h is of failed before =
    before ∙ sym (append-nil (filter_set p (take i rows))) ∙ (λ j. filter_set p (take i rows) ++ cond (sym (ap p (sym of) ∙ failed) j) (x ∷ []) []) ∙ sym (kept-last p rows i x h is)

-- ---- how large they are

width-tail : (rows : List Row) (r : Row) → IsSetOfWidth 16 (r ∷ rows) → IsSetOfWidth 16 rows
width-tail rows r h = record { values = λ v t has. h.values v t (omega (arith, has)); tokens = λ v t has. h.tokens v t (omega (arith, has)) }

sized-at : (rows : List Row) (i : ℕ) (x : Row) (v : Val) → i < length rows → x ≡ get_or rows i x → v ≡ x.0.0 → IsSetOfWidth 16 rows → HasSmallInts v → IsSized v
sized-at [] i x v h is of width small = absurd (omega (arith, h))
sized-at (r ∷ rows) zero x v h is of width small = sized-row (r ∷ rows) rows r v refl (of ∙ ap (λ (q : Row). q.0.0) is) width small
sized-at (r ∷ rows) (suc i) x v h is of width small = sized-at rows i x v (omega (arith, h)) is of (width-tail rows r width) small

-- the value of a row of a list may be handed to a stored function
pub sized-listed : (rows : List Row) (i : ℕ) (x : Row) (v : Val) → i < length rows → x ≡ get_or rows i x → v ≡ x.0.0 → IsSetOfWidth 16 (of_rows rows) → HasSmallInts v → IsSized v
sized-listed rows i x v h is of width small = sized-at rows i x v h is of (width-entries 16 rows (of_rows rows) refl width) small
