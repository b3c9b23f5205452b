-- A set as it is handed on, and passes over it.
use Rattle.std.specs.Prelude.{Bool, ◌||◌, nat_lt, List, filter, Option, Some, None}
use Rattle.std.specs.Arc.{arc_value}
use Rattle.model_values.specs.Row.{Row}
use Rattle.model_sets.specs.Rows.{mark}
use Rattle.lasp_logset.specs.declared.orset.Kept.{Kept}
use Rattle.lasp_logset.specs.declared.orset.Kept.TheVariants.{Whole, Past}

-- the log of a set
abbrev pub log_in : Kept → List Row
log_in (Whole set) = arc_value set
log_in (Past past) = past

-- the log of a table, or that which stands behind it
abbrev pub log_behind : List Row → Option (List Row) → List Row
log_behind set None = set
log_behind set (Some grown) = grown

-- whether a row of a log is the last of its key: a dead one, or one that didn't die
abbrev pub stands : List Row → Row → Bool
stands log r = r.1 || nat_lt (mark log r.0.0 r.0.1) 2

-- the last rows of each key
abbrev pub standing : List Row → List Row → List Row
standing log rows = filter (stands log) rows
