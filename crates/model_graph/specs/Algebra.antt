-- The plain algebra of a graph: evaluation over sets of values, without tokens.
use Rattle.std.specs.Prelude.{ℕ, ◌<◌, Bool, IsTrue, List, [], ◌∷◌, ◌++◌, length, map, if◌then◌else◌, slice_index_or}
use Rattle.model_values.specs.Value.{Val}
use Rattle.model_functions.specs.Map.{mapped}
use Rattle.model_functions.specs.Predicate.{passes}
use Rattle.model_sets.specs.Rows.{IsAscending}
use Rattle.model_sets.specs.Values.{visible}
use Rattle.model_sets.specs.Algebra.{plain_map, plain_filter, plain_union, plain_product, plain_intersection, IsMarkedBy}
use Rattle.model_states.specs.Content.{Content}
use Rattle.model_graph.specs.Graph.{Kind, OrSet, GSet, Counter, MaxReg, Union, Product, Intersection, Map, Filter, Fold, Decl, is_source, kind_at}
use Rattle.model_graph.specs.Evaluation.{rows_at}

-- what each variable shows, as sets of values
abbrev pub visible_sets : List Content → List (List Val)
visible_sets contents = map (λ s. visible s.rows) contents

-- the values of the variable at a place; none where there is none
abbrev pub values_at : List (List Val) → ℕ → List Val
values_at sets x = slice_index_or sets x []

-- a process over the sets of the variables before it; a fold has the values that it folds
abbrev pub plain_equation : Kind → List (List Val) → List Val
plain_equation OrSet sets = []
plain_equation GSet sets = []
plain_equation Counter sets = []
plain_equation MaxReg sets = []
plain_equation (Union x y) sets = plain_union (values_at sets x) (values_at sets y)
plain_equation (Product x y) sets = plain_product (values_at sets x) (values_at sets y)
plain_equation (Intersection x y) sets = plain_intersection (values_at sets x) (values_at sets y)
plain_equation (Map x place ops) sets = plain_map (mapped ops) (values_at sets x)
plain_equation (Filter x place ops) sets = plain_filter (passes ops) (values_at sets x)
plain_equation (Fold x op place lift) sets = values_at sets x

-- one declaration after the others: a source has the values that are given by variable
abbrev pub plain_evaluated : Kind → List (List Val) → List (List Val) → List Val
plain_evaluated k done sources = if is_source k then values_at sources (length done) else plain_equation k done

abbrev pub algebra_from : List Decl → List (List Val) → List (List Val) → List (List Val)
algebra_from [] done sources = done
algebra_from (d ∷ g) done sources = algebra_from g (done ++ plain_evaluated d.kind done sources ∷ []) sources

-- the values of every variable from those of the sources
abbrev pub algebra : List Decl → List (List Val) → List (List Val)
algebra g sources = algebra_from g [] sources

-- the rows of every source are in order, and dead exactly where a token is one of the dead
abbrev pub AreMarkedSources : (ℕ → ℕ → Bool) → List Decl → List Content → Type 0
AreMarkedSources dead g sources = (x : ℕ) → x < length g → IsTrue (is_source (kind_at g x)) → IsAscending (rows_at sources x) × IsMarkedBy dead (rows_at sources x)
