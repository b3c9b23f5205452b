-- Plain sets of values, as ascending lists without repeats, and the visible values of a set state.
use Rattle.std.specs.Prelude.{◌≡◌, ℕ, ◌≤◌, max, not, if◌then◌else◌, IsTrue, List, [], ◌∷◌, ◌++◌, map, filter}
use Rattle.std.specs.Ordering.{eq_by_cmp}
use Rattle.std.specs.FinMap.Entries.{by_order, is_sorted}
use Rattle.model_values.specs.Value.{Val, val_cmp}
use Rattle.model_values.specs.Row.{Row}

-- 1 where the two values are the same, else 0.
abbrev pub is_value : Val → Val → ℕ
is_value w v = if eq_by_cmp val_cmp v w then 1 else 0

-- 1 where the value stands in the list, else 0.
abbrev pub held : List Val → Val → ℕ
held [] v = 0
held (w ∷ s) v = max (is_value w v) (held s v)

-- The value stands in the list.
abbrev pub IsHeld : List Val → Val → Type 0
IsHeld s v = held s v ≡ 1

-- Values as entries of a map that keeps nothing beside them.
abbrev pub entries_of : List Val → List (Val × Unit {0})
entries_of s = map (λ v. (v, tt)) s

-- The values strictly rise.
abbrev pub AreAscending : List Val → Type 0
AreAscending s = IsTrue (is_sorted val_cmp (entries_of s))

-- A value put where it belongs, once.
abbrev pub add : Val → List Val → List Val
add v [] = v ∷ []
add v (w ∷ s) = by_order (val_cmp v w) (v ∷ w ∷ s) (w ∷ s) (w ∷ add v s)

-- The set of any values: ascending, each once.
abbrev pub of_values : List Val → List Val
of_values [] = []
of_values (v ∷ s) = add v (of_values s)

-- The union of two sets.
abbrev pub unite : List Val → List Val → List Val
unite s t = of_values (s ++ t)

-- Each value of the first stands in the second.
abbrev pub IsWithin : List Val → List Val → Type 0
IsWithin s t = (v : Val) → held s v ≤ held t v

-- The values of the live rows, one for each row.
abbrev pub live_values : List Row → List Val
live_values s = map (λ r. r.0.0) (filter (λ r. not r.1) s)

-- The values that have a live row, ascending, each once.
abbrev pub visible : List Row → List Val
visible s = of_values (live_values s)

-- The values of the rows, live or dead, ascending, each once.
abbrev pub row_values : List Row → List Val
row_values s = of_values (map (λ r. r.0.0) s)
