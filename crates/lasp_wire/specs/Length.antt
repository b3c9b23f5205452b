-- The bytes of the rows of a set, counted row by row.
use Rattle.std.specs.Prelude.{ℕ, ◌+◌, List, [], ◌∷◌, length, if◌then◌else◌, Option, Some}
use Rattle.model_values.specs.Value.{Val}
use Rattle.model_values.specs.Row.{Row}
use Rattle.model_graph.specs.Spelling.{spelled_value, spelled_token}
use Rattle.lasp_wire.specs.Written.{is_first}

-- what stands before a row: the value and the number of its rows, where it is the first of them
abbrev pub head_len : Option Val → Row → ℕ
head_len before r = if is_first before r then length (spelled_value r.0.0) + 4 else 0

-- a row behind one of this value: what stands before it, its token, and whether it is dead
abbrev pub row_len : Option Val → Row → ℕ
row_len before r = head_len before r + length (spelled_token r.0.1) + 1

-- rows behind a row of this value
abbrev pub rows_len : Option Val → List Row → ℕ
rows_len before [] = 0
rows_len before (r ∷ rows) = row_len before r + rows_len (Some r.0.0) rows
