-- The rows of a set as they are written, first to last: a value and the number of its rows stand before the first of its rows.
use Rattle.std.specs.Prelude.{ℕ, suc, ◌≤◌, ◌++◌, not, Bool, true, List, [], ◌∷◌, length, if◌then◌else◌, Option, Some, None}
use Rattle.std.specs.List.{AllByRecursion}
use Rattle.std.specs.Ordering.{eq_by_cmp}
use Rattle.model_values.specs.Value.{Val, val_cmp}
use Rattle.model_values.specs.Size.{text_bytes}
use Rattle.model_values.specs.Row.{Row}
use Rattle.model_graph.specs.Spelling.{number, truth, spelled_value, spelled_token}
use Rattle.lasp_state.specs.declared.state.State.{State}
use Rattle.lasp_state.specs.declared.state.State.TheVariants.{Set, Grow, Count, Max, Fold}
use Rattle.lasp_wire.specs.declared.source.Source.{Source}

-- a token and whether it is dead
abbrev pub spelled_mark : Row → List ℕ
spelled_mark r = spelled_token r.0.1 ++ truth r.1

-- how many rows at the front are of a value
abbrev pub run : Val → List Row → ℕ
run v [] = 0
run v (r ∷ rows) = if eq_by_cmp val_cmp v r.0.0 then suc (run v rows) else 0

-- whether a row is of another value than the one before it
abbrev pub is_first : Option Val → Row → Bool
is_first None r = true
is_first (Some v) r = not (eq_by_cmp val_cmp v r.0.0)

-- what stands before a row, which other rows follow
abbrev pub spelled_head : Option Val → Row → List Row → List ℕ
spelled_head before r rows = if is_first before r then spelled_value r.0.0 ++ number 4 (suc (run r.0.0 rows)) else []

-- rows behind a row of this value
abbrev pub spelled_after : Option Val → List Row → List ℕ
spelled_after before [] = []
spelled_after before (r ∷ rows) = (spelled_head before r rows ++ spelled_mark r) ++ spelled_after (Some r.0.0) rows

-- how many values rows have behind a row of this value
abbrev pub values_after : Option Val → List Row → ℕ
values_after before [] = 0
values_after before (r ∷ rows) = if is_first before r then suc (values_after (Some r.0.0) rows) else values_after (Some r.0.0) rows

-- a length of 2 bytes is enough for each text in it
abbrev pub IsShort : Val → Type 0
IsShort v = text_bytes v ≤ 256

-- a number of 4 bytes is enough for the rows, and a length of 2 bytes for each text
abbrev pub AreShortRows : List Row → Type 0
AreShortRows rows = (length rows ≤ 65536) × AllByRecursion (λ r. IsShort r.0.0) rows

-- the same of elements
abbrev pub AreShortValues : List Val → Type 0
AreShortValues values = (length values ≤ 65536) × AllByRecursion IsShort values

-- a state whose numbers and lengths have room
abbrev pub IsShortState : State → Type 0
IsShortState (Set rows) = AreShortRows rows
IsShortState (Grow values) = AreShortValues values
IsShortState (Count counts) = Unit {0}
IsShortState (Max m) = Unit {0}
IsShortState (Fold rows n) = ⊥

-- a source with a length of 1 byte for its name
abbrev pub IsShortSource : Source → Type 0
IsShortSource s = (length s.name ≤ 32) × IsShortState s.state
