-- A derived variable after a change of its inputs.
use Rattle.std.proofs.Common.{◌≡◌, ℕ, inl, inr, List, refl, sym, ap}
use Rattle.model_values.specs.Row.{Row}
use Rattle.model_functions.specs.Map.{mapped}
use Rattle.model_functions.specs.Predicate.{passes}
use Rattle.model_sets.proofs.EquationLaws.{map-grown, filter-grown, union-grown, product-grown, intersect-grown, ascending-changed, join-changed}
use Rattle.model_states.specs.Content.{Content, of_set, join_contents, at_row}
use Rattle.model_graph.specs.Graph.{Kind, OrSet, GSet, Counter, MaxReg, Union, Product, Intersection, Map, Filter, Fold, IsInput}
use Rattle.model_graph.specs.Evaluation.{rows_at, equation}
use Rattle.model_graph.specs.Increment.{IsChange, HasGrown, changed_at, increment}

pub equation-grown : (k : Kind) (before after : List Content) (change : ℕ → List Row) → ((x : ℕ) → IsInput k x → IsChange (rows_at before x) (change x) (rows_at after x))
    → equation k after ≡ join_contents (equation k before) (increment k change after)
equation-grown OrSet before after change h = refl
equation-grown GSet before after change h = refl
equation-grown Counter before after change h = refl
equation-grown MaxReg before after change h = refl
equation-grown (Union x y) before after change h =
    ap of_set (union-grown (rows_at before x) (change x) (rows_at after x) (rows_at before y) (change y) (rows_at after y) (h x (inl refl)).joined (h y (inr refl)).joined)
equation-grown (Product x y) before after change h =
    ap of_set (product-grown (rows_at before x) (change x) (rows_at after x) (rows_at before y) (change y) (rows_at after y) (h x (inl refl)).joined (h y (inr refl)).joined)
equation-grown (Intersection x y) before after change h =
    ap of_set (intersect-grown (rows_at before x) (change x) (rows_at after x) (rows_at before y) (change y) (rows_at after y) (h x (inl refl)).joined (h y (inr refl)).joined)
equation-grown (Map x place ops) before after change h = ap of_set (map-grown (mapped ops) (rows_at before x) (change x) (rows_at after x) (h x refl).joined)
equation-grown (Filter x place ops) before after change h =
    ap of_set (filter-grown (passes ops) (rows_at before x) (change x) (rows_at after x) (h x refl).was (h x refl).ascends (h x refl).joined)
equation-grown (Fold x op place lift) before after change h = ap of_set (sym (h x refl).joined)

-- the rows that are more are a change
pub changed-change : (before after : List Content) (x : ℕ) → HasGrown before after x → IsChange (rows_at before x) (changed_at before after x) (rows_at after x)
changed-change before after x h = record {
  was = h.was.rows;
  ascends = ascending-changed (rows_at before x) (rows_at after x) h.is.rows;
  joined = join-changed (rows_at before x) (rows_at after x) h.is.rows (λ v t. h.more (at_row v t));
}

pub equation-changed : (k : Kind) (before after : List Content) → ((x : ℕ) → IsInput k x → HasGrown before after x)
    → equation k after ≡ join_contents (equation k before) (increment k (changed_at before after) after)
equation-changed k before after h = equation-grown k before after (changed_at before after) (λ x i. changed-change before after x (h x i))

pub ruleset increments = (equation-grown, equation-changed)
