-- Logs of rows: what each row of a log brings, and rows that no two share a key of.
use Rattle.std.specs.Prelude.{◌≡◌, ◌<◌, List, [], ◌∷◌}
use Rattle.model_values.specs.Row.{Row}
use Rattle.model_sets.specs.Rows.{level, mark, put}

-- Each row raises what stands in the state and the rows before it.
abbrev pub AreRises : List Row → List Row → Type 0
AreRises s [] = Unit {0}
AreRises s (r ∷ log) = (mark s r.0.0 r.0.1 < level r.1) × AreRises (put r s) log

-- No two rows have one key.
abbrev pub AreApart : List Row → Type 0
AreApart [] = Unit {0}
AreApart (r ∷ s) = (mark s r.0.0 r.0.1 ≡ 0) × AreApart s
