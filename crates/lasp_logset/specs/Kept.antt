-- What is kept of a set beside its log.
use Rattle.std.specs.Prelude.{◌≡◌, ℕ, ◌≤◌, ◌^◌, List, [], ◌++◌, length}
use Rattle.model_values.specs.Value.{Val}
use Rattle.model_values.specs.Token.{Tok}
use Rattle.model_values.specs.Row.{Row}
use Rattle.model_sets.specs.Rows.{mark, of_rows}
use Rattle.model_sets.specs.Rises.{AreRises}
use Rattle.model_sets.specs.Reads.{HaveSmallInts}
use Rattle.lasp_logset.specs.Chains.{AreChained}
use Rattle.lasp_logset.specs.Few.{AreSeen}
use Rattle.lasp_logset.specs.Places.{AreFound}

-- a table of rows tells what the log tells
pub record AreKept (rows log : List Row) : Type 0 where
  pub marks : (v : Val) (w : Tok) → mark log v w ≡ mark rows v w
  -- each row of the log tells more than those before it
  pub rises : AreRises [] log
  pub ints : HaveSmallInts log
  pub few : length rows ≤ length log

-- the table tells what the log tells, chains lead to its live rows, others to all rows, and places to all values of the live rows that were looked at
pub record IsSet (rows log : List Row) (newest : List (ℕ × ℕ)) (older : List ℕ) (all_newest : List (ℕ × ℕ)) (all_older : List ℕ) (places : List ℕ) (upto : ℕ) : Type 0 where
  pub kept : AreKept rows log
  pub chained : AreChained rows newest older
  pub found : AreFound rows all_newest all_older
  pub seen : AreSeen rows places upto

-- a log that was shared, and how many rows it tells of
pub record IsPast (log : List Row) (rows : ℕ) : Type 0 where
  pub rises : AreRises [] log
  pub ints : HaveSmallInts log
  pub counted : rows ≡ length (of_rows log)
  pub small : rows ≤ 2 ^ 32

-- a table of the rows of a log that a pass over it has left behind
pub record IsTable (rows left log : List Row) : Type 0 where
  pub before : List Row
  pub whole : before ++ left ≡ log
  pub kept : AreKept rows before
  pub rises : AreRises before left
