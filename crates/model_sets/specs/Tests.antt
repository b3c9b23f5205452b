-- The orders as tests.
use Rattle.std.specs.Prelude.{Bool, true, ◌&&◌, ◌==◌, nat_le, List, [], ◌∷◌}
use Rattle.model_values.specs.Value.{Val}
use Rattle.model_values.specs.Row.{Row}
use Rattle.model_sets.specs.Rows.{level, mark}
use Rattle.model_sets.specs.Values.{held}

-- Whether each row of the first is in the second, and is dead there if it is dead in the first.
abbrev pub is_at_most : List Row → List Row → Bool
is_at_most [] t = true
is_at_most (r ∷ s) t = nat_le (level r.1) (mark t r.0.0 r.0.1) && is_at_most s t

-- Whether each value of the first stands in the second.
abbrev pub is_within : List Val → List Val → Bool
is_within [] t = true
is_within (v ∷ s) t = (held t v == 1) && is_within s t
