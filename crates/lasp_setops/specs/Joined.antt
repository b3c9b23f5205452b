-- How far a loop that joins rows in has come.
use Rattle.std.specs.Prelude.{◌≡◌, List, [], ◌∷◌, if◌then◌else◌}
use Rattle.model_values.specs.Row.{Row}
use Rattle.model_sets.specs.Rows.{IsAscending, join, is_of}
use Rattle.model_sets.specs.Equations.{met}

-- the state so far, joined with the rows that are left, is the whole
pub record IsJoinedUpTo (so_far left whole : List Row) : Type 0 where
  pub ascends : IsAscending so_far
  pub all : join so_far left ≡ whole

-- two rows as one where they have one value
abbrev pub meetings : Row → Row → List Row
meetings r q = if is_of r.0.0 q then met r q ∷ [] else []
