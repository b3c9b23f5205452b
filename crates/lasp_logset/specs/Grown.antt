-- Logs that begin as that of a table does.
use Rattle.std.specs.Prelude.{◌≡◌, ◌<◌, List, ◌++◌}
use Rattle.model_values.specs.Value.{Val}
use Rattle.model_values.specs.Token.{Tok}
use Rattle.model_values.specs.Row.{Row}
use Rattle.model_sets.specs.Rows.{mark}
use Rattle.model_sets.specs.Equations.{changed}
use Rattle.model_sets.specs.Rises.{AreRises, AreApart}

-- the log begins as another
abbrev pub IsBegun : List Row → List Row → Type 0
IsBegun begin log = (more : List Row) × (log ≡ begin ++ more)

-- a log that has grown by rows that each tell more
pub record IsGrown (before after : List Row) : Type 0 where
  pub more : List Row
  pub is : after ≡ before ++ more
  pub rises : AreRises before more

-- of a pass of which no two rows have one key the rows up to here went behind a set's log, where they told more
pub record IsAlong (set rows log left : List Row) : Type 0 where
  pub whole : log ++ changed set left ≡ set ++ changed set rows
  pub apart : AreApart left
  pub same : (v : Val) (w : Tok) → 0 < mark left v w → mark log v w ≡ mark set v w
