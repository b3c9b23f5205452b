-- How a derived variable follows its inputs: what is joined into it are the rows that the changed rows of its inputs give.
use Rattle.std.specs.Prelude.{◌≡◌, ℕ, List}
use Rattle.model_values.specs.Row.{Row}
use Rattle.model_functions.specs.Map.{mapped}
use Rattle.model_functions.specs.Predicate.{passes}
use Rattle.model_sets.specs.Rows.{IsAscending, join}
use Rattle.model_sets.specs.Equations.{map_set, filter_set, union_set, product_set, intersect_set, changed}
use Rattle.model_states.specs.Content.{Content, least, of_set, IsContentAtMost, IsOrdered}
use Rattle.model_graph.specs.Graph.{Kind, OrSet, GSet, Counter, MaxReg, Union, Product, Intersection, Map, Filter, Fold}
use Rattle.model_graph.specs.Evaluation.{content_at, rows_at}

-- rows by which a set came to be another; any that make the difference
pub record IsChange (before rows after : List Row) : Type 0 where
  pub was : IsAscending before
  pub ascends : IsAscending rows
  pub joined : join before rows ≡ after

-- an input was in order, is in order and is more
pub record HasGrown (before after : List Content) (x : ℕ) : Type 0 where
  pub was : IsOrdered (content_at before x)
  pub is : IsOrdered (content_at after x)
  pub more : IsContentAtMost (content_at before x) (content_at after x)

-- the rows of a variable that are more than they were
abbrev pub changed_at : List Content → List Content → ℕ → List Row
changed_at before after x = changed (rows_at before x) (rows_at after x)

-- what a process gives of the rows by which its inputs changed; of two inputs each change meets the other input as it is now; a fold covers the change
abbrev pub increment : Kind → (ℕ → List Row) → List Content → Content
increment OrSet change after = least
increment GSet change after = least
increment Counter change after = least
increment MaxReg change after = least
increment (Union x y) change after = of_set (union_set (change x) (change y))
increment (Product x y) change after = of_set (join (product_set (change x) (rows_at after y)) (product_set (rows_at after x) (change y)))
increment (Intersection x y) change after = of_set (join (intersect_set (change x) (rows_at after y)) (intersect_set (rows_at after x) (change y)))
increment (Map x place ops) change after = of_set (map_set (mapped ops) (change x))
increment (Filter x place ops) change after = of_set (filter_set (passes ops) (change x))
increment (Fold x op place lift) change after = of_set (change x)
