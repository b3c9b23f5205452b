-- Processes after changes of their inputs.
use Rattle.std.proofs.Common.{◌≡◌, ◌∙◌, refl, sym, ap, subst, ◌<◌, ◌≤◌, List, [], length, map, ℕ, Result, Ok, Err, IfOk, arith}
use Rattle.model_values.specs.Row.{Row}
use Rattle.model_functions.specs.Map.{mapped}
use Rattle.model_functions.specs.Predicate.{passes}
use Rattle.model_sets.specs.Rows.{mark, IsAscending, join}
use Rattle.model_sets.specs.Equations.{changed, map_set, filter_set, product_set, intersect_set, moved}
use Rattle.model_sets.proofs.RowLaws.{ascending-join, ascending-of_rows, join-right}
use Rattle.model_sets.proofs.EquationLaws.{ascending-changed, join-changed, map-grown, filter-grown, union-grown, product-grown, intersect-grown, filter-ascending}
use Rattle.model_states.specs.Content.{Content, of_set, at_row, IsContentAtMost, size_of}
use Rattle.model_graph.specs.Graph.{Kind, OrSet, GSet, Counter, MaxReg, Union, Product, Intersection, Map, Filter, Fold}
use Rattle.model_states.specs.Threshold.{set}
use Rattle.lasp_state.specs.declared.state.State.{State}
use Rattle.lasp_state.specs.declared.state.State.TheVariants as state
use Rattle.lasp_state.specs.State.{content_of, shape_of}
use Rattle.model_states.proofs.SizeLaws.{length-at_most}
use Rattle.lasp_graph.specs.Evaluated.{process}
use Rattle.lasp_graph.specs.Delta.{IsSetBefore, IsStateBefore, IsStateOf, gained}
use Rattle.model_graph.specs.Increment.{IsChange}
use Rattle.lasp_setops.specs.Width.{IsSetOfWidth}
use Rattle.lasp_setops.proofs.FoldLaws.{change-below}

-- the changed rows are no wider than the rows
pub width-change : (before change after : List Row) → IsChange before change after → IsSetOfWidth 16 after → IsSetOfWidth 16 change
width-change before change after h w = record {
  values = λ v t has. w.values v t (omega (arith, has, change-below before change after h v t));
  tokens = λ v t has. w.tokens v t (omega (arith, has, change-below before change after h v t));
}

pub changed-change : (s t : Content) (x y c : List Row) → s ≡ of_set x → t ≡ of_set y → c ≡ changed x y → IsAscending x → IsAscending y → IsContentAtMost s t → IsChange s.rows c t.rows
changed-change s t x y c is_s is_t is_c up_x up_y more =
    subst (λ (u : Content). IsChange u.rows c t.rows) (sym is_s) (subst (λ (u : Content). IsChange x c u.rows) (sym is_t) (subst (λ (d : List Row). IsChange x d y) (sym is_c) record {
      was = up_x;
      ascends = ascending-changed x y up_y;
      joined = join-changed x y up_y (λ v w. subst (λ (u : Content). mark u.rows v w ≤ mark y v w) is_s (subst (λ (u : Content). mark s.rows v w ≤ mark u.rows v w) is_t (more (at_row v w))));
    }))

-- ---- what a process gains

rows-were : (s t : List Row) → of_set s ≡ of_set t → s ≡ t
rows-were s t e = ap (λ (u : Content). u.rows) e

-- joined into the rows before, the rows that a process gains give those that it has
pub set-gained : (k : Kind) (x_change x y_change y rows : List Row) → IsSetBefore k x_change x y_change y rows → process k (of_set x) (of_set y) ≡ of_set (join rows (gained k x_change x y_change y))
set-gained OrSet x_change x y_change y rows h = ap (λ (s : List Row). of_set (join s [])) (sym (rows-were rows [] h.was))
set-gained GSet x_change x y_change y rows h = ap (λ (s : List Row). of_set (join s [])) (sym (rows-were rows [] h.was))
set-gained Counter x_change x y_change y rows h = ap (λ (s : List Row). of_set (join s [])) (sym (rows-were rows [] h.was))
set-gained MaxReg x_change x y_change y rows h = ap (λ (s : List Row). of_set (join s [])) (sym (rows-were rows [] h.was))
set-gained (Union i j) x_change x y_change y rows h =
    ap of_set (union-grown h.first x_change x h.second y_change y h.first_grown.joined h.second_grown.joined ∙ ap (λ (s : List Row). join s (join x_change y_change)) (sym (rows-were rows _ h.was)))
set-gained (Product i j) x_change x y_change y rows h =
    ap of_set (product-grown h.first x_change x h.second y_change y h.first_grown.joined h.second_grown.joined ∙ ap (λ (s : List Row). join s (gained (Product i j) x_change x y_change y)) (sym (rows-were rows _ h.was)))
set-gained (Intersection i j) x_change x y_change y rows h =
    ap of_set (intersect-grown h.first x_change x h.second y_change y h.first_grown.joined h.second_grown.joined ∙ ap (λ (s : List Row). join s (gained (Intersection i j) x_change x y_change y)) (sym (rows-were rows _ h.was)))
set-gained (Map i place ops) x_change x y_change y rows h =
    ap of_set (map-grown (mapped ops) h.first x_change x h.first_grown.joined ∙ ap (λ (s : List Row). join s (map_set (mapped ops) x_change)) (sym (rows-were rows _ h.was)))
set-gained (Filter i place ops) x_change x y_change y rows h =
    ap of_set (filter-grown (passes ops) h.first x_change x h.first_grown.was h.first_grown.ascends h.first_grown.joined ∙ ap (λ (s : List Row). join s (filter_set (passes ops) x_change)) (sym (rows-were rows _ h.was)))
set-gained (Fold i op place lift) x_change x y_change y rows h = ap of_set (sym h.first_grown.joined ∙ ap (λ (s : List Row). join s x_change) (sym (rows-were rows _ h.was)))

-- the same of an answer, whose rows are in a list
pub ok-gained : {A E : Type 0} (rows_of : A → List Row) (r : Result A E) (k : Kind) (x_change x y_change y rows : List Row) → IsSetBefore k x_change x y_change y rows → IfOk r (λ s. rows_of s ≡ gained k x_change x y_change y)
    → IfOk r (λ s. process k (of_set x) (of_set y) ≡ of_set (join rows (rows_of s)))
ok-gained rows_of (Ok s) k x_change x y_change y rows h is = set-gained k x_change x y_change y rows h ∙ ap (λ (more : List Row). of_set (join rows more)) (sym is)
ok-gained rows_of (Err e) k x_change x y_change y rows h is = tt

ascending-gained : (k : Kind) (x_change x y_change y : List Row) → IsAscending x_change → IsAscending (gained k x_change x y_change y)
ascending-gained OrSet x_change x y_change y up = refl
ascending-gained GSet x_change x y_change y up = refl
ascending-gained Counter x_change x y_change y up = refl
ascending-gained MaxReg x_change x y_change y up = refl
ascending-gained (Union i j) x_change x y_change y up = ascending-join x_change y_change
ascending-gained (Product i j) x_change x y_change y up = ascending-join (product_set x_change y) (product_set x y_change)
ascending-gained (Intersection i j) x_change x y_change y up = ascending-join (intersect_set x_change y) (intersect_set x y_change)
ascending-gained (Map i place ops) x_change x y_change y up = ascending-of_rows (map (moved (mapped ops)) x_change)
ascending-gained (Filter i place ops) x_change x y_change y up = filter-ascending (passes ops) x_change up
ascending-gained (Fold i op place lift) x_change x y_change y up = up

-- a process has at least the rows that it gains
pub long-gained : (n : ℕ) (k : Kind) (x_change x y_change y rows : List Row) → IsSetBefore k x_change x y_change y rows → n < length (gained k x_change x y_change y) → n < size_of (process k (of_set x) (of_set y))
long-gained n k x_change x y_change y rows h long =
    let more = gained k x_change x y_change y in
    let most = length-at_most more (join rows more) (ascending-gained k x_change x y_change y h.first_grown.ascends) (ascending-join rows more) (join-right rows more) in
    let same = ap size_of (set-gained k x_change x y_change y rows h) in
    omega (arith, long, most, same)

-- what was joined is as large as the process
pub long-joined : (n : ℕ) (k : Kind) (x_change x y_change y rows more all : List Row) → IsSetBefore k x_change x y_change y rows → more ≡ gained k x_change x y_change y → all ≡ join rows more → n < length all
    → n < size_of (process k (of_set x) (of_set y))
long-joined n k x_change x y_change y rows more all h is joined long =
    let whole = ap size_of (set-gained k x_change x y_change y rows h) in
    let same : length (join rows (gained k x_change x y_change y)) ≡ length all = ap length ((λ i. join rows (sym is i)) ∙ sym joined) in
    omega (arith, long, whole, same)

pub joined-rows : (all old rows new : List Row) → all ≡ old → new ≡ join all rows → new ≡ join old rows
joined-rows all old rows new copy joined = joined ∙ ap (λ (s : List Row). join s rows) copy

-- ---- the states that a process had before

-- a set's content is that of its rows
pub set-flat : (s : State) → shape_of s ≡ set → content_of s ≡ of_set (content_of s).rows
set-flat (state.Set rows) e = refl
set-flat (state.Grow values) e = absurd cc
set-flat (state.Count counts) e = absurd cc
set-flat (state.Max m) e = absurd cc
set-flat (state.Fold rows n) e = absurd cc

pub change-of : (s s' t t' : State) (c : List Row) → s ≡ s' → t ≡ t' → (IsContentAtMost (content_of s) (content_of t) → IsChange (content_of s).rows c (content_of t).rows)
    → IsContentAtMost (content_of s') (content_of t') → IsChange (content_of s').rows c (content_of t').rows
change-of s s' t t' c e f h = subst (λ (p : State × State). IsContentAtMost (content_of p.0) (content_of p.1) → IsChange (content_of p.0).rows c (content_of p.1).rows) (λ i. (e i, f i)) h

pub before-of : (k : Kind) (x y x' y' : State) (x_change y_change : List Row) (old : State) → shape_of x ≡ set → shape_of y ≡ set → IsChange (content_of x).rows x_change (content_of x').rows → IsChange (content_of y).rows y_change (content_of y').rows
    → IsStateOf k (content_of x) (content_of y) old → IsStateBefore k x_change (content_of x').rows y_change (content_of y').rows old
before-of k x y x' y' x_change y_change old first second grown more was = record {
  first = (content_of x).rows;
  second = (content_of y).rows;
  first_grown = grown;
  second_grown = more;
  state = subst (λ (p : Content × Content). IsStateOf k p.0 p.1 old) (λ i. (set-flat x first i, set-flat y second i)) was;
}
