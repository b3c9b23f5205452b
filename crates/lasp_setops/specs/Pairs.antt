-- What is made of two sets row by row, by its name.
use Rattle.std.specs.Prelude.{List, [], ◌∷◌, filter}
use Rattle.model_values.specs.Row.{Row}
use Rattle.model_sets.specs.Rows.{is_of}
use Rattle.model_sets.specs.Equations.{intersect_set, paired, product_set}
use Rattle.lasp_setops.specs.Joined.{meetings}
use Rattle.lasp_setops.specs.declared.pairs.Pairing.{Pairing}
use Rattle.lasp_setops.specs.declared.pairs.Pairing.TheVariants.{Product, Intersection}
use Rattle.lasp_setops.specs.declared.pairs.Side.{Side}
use Rattle.lasp_setops.specs.declared.pairs.Side.TheVariants.{First, Second}

-- the set that is made of two
abbrev pub pair_set : Pairing → List Row → List Row → List Row
pair_set Product x y = product_set x y
pair_set Intersection x y = intersect_set x y

-- the rows that a row of the first set and one of the second make
abbrev pub gives : Pairing → Row → Row → List Row
gives Product r q = paired r q ∷ []
gives Intersection r q = meetings r q

-- the rows of a set that a row makes any with
abbrev pub partners : Pairing → Row → List Row → List Row
partners Product r s = s
partners Intersection r s = filter (is_of r.0.0) s

-- both, where what comes first is of that side
abbrev pub pair_set_from : Pairing → Side → List Row → List Row → List Row
pair_set_from p First x y = pair_set p x y
pair_set_from p Second y x = pair_set p x y

abbrev pub gives_from : Pairing → Side → Row → Row → List Row
gives_from p First r q = gives p r q
gives_from p Second q r = gives p r q
