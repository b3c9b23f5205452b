-- How an input came to be what it is now.
use Rattle.std.specs.Prelude.{◌≡◌, List}
use Rattle.model_values.specs.Row.{Row}
use Rattle.model_sets.specs.Rows.{IsAscending, join}

-- a state that became another by a change, whose rows may be any that make the difference
pub record IsGrown (before change after : List Row) : Type 0 where
  pub ascends : IsAscending before
  pub joined : join before change ≡ after
