-- What loops over rows compute: the merge of two states, rows collapsed after a sort, the values that come live along rows. Their laws say that this is the join, the state, the visible values.
use Rattle.std.specs.Prelude.{ℕ, ◌==◌, Bool, false, ◌||◌, if◌then◌else◌, List, [], ◌∷◌, Option, Some, None, filter, length}
use Rattle.std.specs.Ordering.{eq_by_cmp}
use Rattle.std.specs.FinMap.Entries.{by_order}
use Rattle.model_values.specs.Value.{Val, val_cmp}
use Rattle.model_values.specs.Row.{Row, key_cmp}
use Rattle.model_sets.specs.Rows.{mark}

-- A row before the merge of the rows after it with the second list, where rest merges those.
abbrev pub merge_row : Row → (List Row → List Row) → List Row → List Row
merge_row r rest [] = r ∷ rest []
merge_row r rest (q ∷ t) = by_order (key_cmp r.0 q.0) (r ∷ rest (q ∷ t)) ((r.0, r.1 || q.1) ∷ rest t) (q ∷ merge_row r rest t)

-- Two ascending lists of rows side by side: the lesser head first, equal heads as one row, dead where either is.
abbrev pub merge : List Row → List Row → List Row
merge [] t = t
merge (r ∷ s) t = merge_row r (merge s) t

-- The rows after a row, where rows of its key go into it.
abbrev pub collapse_from : Row → List Row → List Row
collapse_from r [] = r ∷ []
collapse_from r (q ∷ s) = if eq_by_cmp key_cmp r.0 q.0 then collapse_from (r.0, r.1 || q.1) s else r ∷ collapse_from q s

-- Rows that lie in order, neighbours of one key made one row, dead where one of them is.
abbrev pub collapse : List Row → List Row
collapse [] = []
collapse (r ∷ s) = collapse_from r s

-- Whether the last value, if any, is this one.
abbrev pub is_last : Option Val → Val → Bool
is_last None v = false
is_last (Some u) v = eq_by_cmp val_cmp u v

-- The values of the live rows that differ from the value before them, which last is at the start.
abbrev pub values_after : Option Val → List Row → List Val
values_after last [] = []
values_after last (r ∷ s) = if r.1 || is_last last r.0.0 then values_after last s else r.0.0 ∷ values_after (Some r.0.0) s

-- How many rows of t have a key that s lacks.
abbrev pub new_rows : List Row → List Row → ℕ
new_rows s t = length (filter (λ r. mark s r.0.0 r.0.1 == 0) t)
