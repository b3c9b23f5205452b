-- What equations do with the order and the inputs of a variable. Only the clauses by kind look into a kind.
use Rattle.std.proofs.Common.{◌≡◌, ℕ, inl, inr, List, [], map, refl, ◌∙◌, arith}
use Rattle.model_values.specs.Row.{Row}
use Rattle.model_functions.specs.Map.{mapped}
use Rattle.model_functions.specs.Predicate.{passes}
use Rattle.model_sets.specs.Rows.{IsAtMost, IsAscending}
use Rattle.model_sets.specs.Equations.{moved, map_set, filter_set, union_set, product_set, intersect_set}
use Rattle.model_sets.proofs.RowLaws.{join-monotone, ascending-join, ascending-of_rows}
use Rattle.model_sets.proofs.EquationLaws.{map-monotone, filter-monotone, product-monotone, intersect-monotone, filter-ascending, ascending-product, ascending-intersect}
use Rattle.model_states.specs.Content.{Content, least, of_set, IsContentAtMost, IsOrdered, at_row, at_value, at_count, at_top}
use Rattle.model_states.proofs.ContentLaws.{at_most-itself}
use Rattle.model_graph.specs.Graph.{Kind, OrSet, GSet, Counter, MaxReg, Union, Product, Intersection, Map, Filter, Fold, IsInput}
use Rattle.model_graph.specs.Evaluation.{content_at, rows_at, equation}

-- rows at most others make a content at most the other
set-at_most : (s t : List Row) → IsAtMost s t → IsContentAtMost (of_set s) (of_set t)
set-at_most s t h (at_row v w) = h v w
set-at_most s t h (at_value v) = omega arith
set-at_most s t h (at_count q) = omega arith
set-at_most s t h (at_top n) = omega arith

-- and a content at most another has rows at most its
rows-at_most : (s t : Content) → IsContentAtMost s t → IsAtMost s.rows t.rows
rows-at_most s t h v w = h (at_row v w)

pub equation-monotone : (k : Kind) (ss ts : List Content) → ((x : ℕ) → IsInput k x → IsContentAtMost (content_at ss x) (content_at ts x)) → IsContentAtMost (equation k ss) (equation k ts)
equation-monotone OrSet ss ts h = at_most-itself least
equation-monotone GSet ss ts h = at_most-itself least
equation-monotone Counter ss ts h = at_most-itself least
equation-monotone MaxReg ss ts h = at_most-itself least
equation-monotone (Union a b) ss ts h =
    let left = rows-at_most (content_at ss a) (content_at ts a) (h a (inl refl)) in
    let right = rows-at_most (content_at ss b) (content_at ts b) (h b (inr refl)) in
    set-at_most (union_set (rows_at ss a) (rows_at ss b)) (union_set (rows_at ts a) (rows_at ts b)) (join-monotone (rows_at ss a) (rows_at ts a) (rows_at ss b) (rows_at ts b) left right)
equation-monotone (Product a b) ss ts h =
    let left = rows-at_most (content_at ss a) (content_at ts a) (h a (inl refl)) in
    let right = rows-at_most (content_at ss b) (content_at ts b) (h b (inr refl)) in
    set-at_most (product_set (rows_at ss a) (rows_at ss b)) (product_set (rows_at ts a) (rows_at ts b)) (product-monotone (rows_at ss a) (rows_at ts a) (rows_at ss b) (rows_at ts b) left right)
equation-monotone (Intersection a b) ss ts h =
    let left = rows-at_most (content_at ss a) (content_at ts a) (h a (inl refl)) in
    let right = rows-at_most (content_at ss b) (content_at ts b) (h b (inr refl)) in
    set-at_most (intersect_set (rows_at ss a) (rows_at ss b)) (intersect_set (rows_at ts a) (rows_at ts b)) (intersect-monotone (rows_at ss a) (rows_at ts a) (rows_at ss b) (rows_at ts b) left right)
equation-monotone (Map a place ops) ss ts h =
    set-at_most (map_set (mapped ops) (rows_at ss a)) (map_set (mapped ops) (rows_at ts a)) (map-monotone (mapped ops) (rows_at ss a) (rows_at ts a) (rows-at_most (content_at ss a) (content_at ts a) (h a refl)))
equation-monotone (Filter a place ops) ss ts h =
    set-at_most (filter_set (passes ops) (rows_at ss a)) (filter_set (passes ops) (rows_at ts a)) (filter-monotone (passes ops) (rows_at ss a) (rows_at ts a) (rows-at_most (content_at ss a) (content_at ts a) (h a refl)))
equation-monotone (Fold a op place lift) ss ts h = set-at_most (rows_at ss a) (rows_at ts a) (rows-at_most (content_at ss a) (content_at ts a) (h a refl))

-- the content of a set is in order where its rows are
pub set-ordered : (s : List Row) → IsAscending s → IsOrdered (of_set s)
set-ordered s up = record { rows = up; values = refl }

pub equation-ordered : (k : Kind) (ss : List Content) → ((x : ℕ) → IsInput k x → IsOrdered (content_at ss x)) → IsOrdered (equation k ss)
equation-ordered OrSet ss h = record { rows = refl; values = refl }
equation-ordered GSet ss h = record { rows = refl; values = refl }
equation-ordered Counter ss h = record { rows = refl; values = refl }
equation-ordered MaxReg ss h = record { rows = refl; values = refl }
equation-ordered (Union a b) ss h = set-ordered (union_set (rows_at ss a) (rows_at ss b)) (ascending-join (rows_at ss a) (rows_at ss b))
equation-ordered (Product a b) ss h = set-ordered (product_set (rows_at ss a) (rows_at ss b)) (ascending-product (rows_at ss a) (rows_at ss b))
equation-ordered (Intersection a b) ss h = set-ordered (intersect_set (rows_at ss a) (rows_at ss b)) (ascending-intersect (rows_at ss a) (rows_at ss b))
equation-ordered (Map a place ops) ss h = set-ordered (map_set (mapped ops) (rows_at ss a)) (ascending-of_rows (map (moved (mapped ops)) (rows_at ss a)))
equation-ordered (Filter a place ops) ss h = set-ordered (filter_set (passes ops) (rows_at ss a)) (filter-ascending (passes ops) (rows_at ss a) (h a refl).rows)
equation-ordered (Fold a op place lift) ss h = set-ordered (rows_at ss a) (h a refl).rows

-- a variable looks at its inputs alone
pub equation-alike : (k : Kind) (ss ts : List Content) → ((x : ℕ) → IsInput k x → content_at ss x ≡ content_at ts x) → equation k ss ≡ equation k ts
equation-alike OrSet ss ts h = refl
equation-alike GSet ss ts h = refl
equation-alike Counter ss ts h = refl
equation-alike MaxReg ss ts h = refl
equation-alike (Union a b) ss ts h = λ i. of_set (union_set (h a (inl refl) i).rows (h b (inr refl) i).rows)
equation-alike (Product a b) ss ts h = λ i. of_set (product_set (h a (inl refl) i).rows (h b (inr refl) i).rows)
equation-alike (Intersection a b) ss ts h = λ i. of_set (intersect_set (h a (inl refl) i).rows (h b (inr refl) i).rows)
equation-alike (Map a place ops) ss ts h = λ i. of_set (map_set (mapped ops) (h a refl i).rows)
equation-alike (Filter a place ops) ss ts h = λ i. of_set (filter_set (passes ops) (h a refl i).rows)
equation-alike (Fold a op place lift) ss ts h = λ i. of_set (h a refl i).rows

pub equation-nothing : (k : Kind) → equation k [] ≡ least
equation-nothing OrSet = refl
equation-nothing GSet = refl
equation-nothing Counter = refl
equation-nothing MaxReg = refl
equation-nothing (Union a b) = refl
equation-nothing (Product a b) = refl
equation-nothing (Intersection a b) = refl
equation-nothing (Map a place ops) = refl
equation-nothing (Filter a place ops) = refl
equation-nothing (Fold a op place lift) = refl

-- over least inputs every process is least
pub equation-least : (k : Kind) (ss : List Content) → ((x : ℕ) → IsInput k x → content_at ss x ≡ least) → equation k ss ≡ least
equation-least k ss h = equation-alike k ss [] h ∙ equation-nothing k
