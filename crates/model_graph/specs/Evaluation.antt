-- Plain evaluation: the state of every variable from the states of the sources, declaration by declaration, from scratch.
use Rattle.std.specs.Prelude.{ℕ, ◌+◌, List, [], ◌∷◌, ◌++◌, length, if◌then◌else◌, nat_lt, Option, Some, None, slice_index_or}
use Rattle.model_values.specs.Row.{Row}
use Rattle.model_functions.specs.Map.{mapped}
use Rattle.model_functions.specs.Predicate.{passes}
use Rattle.model_sets.specs.Equations.{map_set, filter_set, union_set, product_set, intersect_set}
use Rattle.model_states.specs.Counts.{zeros}
use Rattle.model_states.specs.Content.{Content, least, of_set, of_counts, size_of, row_limit}
use Rattle.model_graph.specs.Graph.{Kind, OrSet, GSet, Counter, MaxReg, Union, Product, Intersection, Map, Filter, Fold, Decl, is_source}

-- what a variable of the kind holds before anything happened, among so many nodes
abbrev pub least_of : ℕ → Kind → Content
least_of nodes Counter = of_counts (zeros nodes)
least_of nodes _ = least

-- the content of the variable at a place; least where there is none
abbrev pub content_at : List Content → ℕ → Content
content_at contents x = slice_index_or contents x least

-- the rows of the variable at a place
abbrev pub rows_at : List Content → ℕ → List Row
rows_at contents x = (content_at contents x).rows

-- a process over the contents of the variables before it; a fold holds the set that it covers
abbrev pub equation : Kind → List Content → Content
equation OrSet contents = least
equation GSet contents = least
equation Counter contents = least
equation MaxReg contents = least
equation (Union x y) contents = of_set (union_set (rows_at contents x) (rows_at contents y))
equation (Product x y) contents = of_set (product_set (rows_at contents x) (rows_at contents y))
equation (Intersection x y) contents = of_set (intersect_set (rows_at contents x) (rows_at contents y))
equation (Map x place ops) contents = of_set (map_set (mapped ops) (rows_at contents x))
equation (Filter x place ops) contents = of_set (filter_set (passes ops) (rows_at contents x))
equation (Fold x op place lift) contents = of_set (rows_at contents x)

-- one declaration after the others: a source is as given, a process is its equation on what was evaluated
abbrev pub evaluated : Kind → List Content → List Content → Content
evaluated k done sources = if is_source k then content_at sources (length done) else equation k done

-- the declarations that are left, after those that are done; the sources are given by variable
abbrev pub eval_from : List Decl → List Content → List Content → List Content
eval_from [] done sources = done
eval_from (d ∷ g) done sources = eval_from g (done ++ evaluated d.kind done sources ∷ []) sources

abbrev pub eval : List Decl → List Content → List Content
eval g sources = eval_from g [] sources

-- the first variable, counted from x, that has more rows than the limit
abbrev pub first_large : ℕ → List Content → Option ℕ
first_large x [] = None
first_large x (s ∷ contents) = if nat_lt row_limit (size_of s) then Some x else first_large (x + 1) contents
