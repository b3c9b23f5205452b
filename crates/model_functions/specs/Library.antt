-- A library of functions: of each of the three sorts a list of names with operations. A function is found by its name and kept by its place.
use Rattle.std.specs.Prelude.{ℕ, List, Option, option_map, slice_get}
use Rattle.std.specs.List.{position}
use Rattle.std.specs.Str.{bytes_eq}
use Rattle.model_functions.specs.Map.{MapOp}
use Rattle.model_functions.specs.Predicate.{PredOp}
use Rattle.model_functions.specs.Lift.{LiftOp}

pub record Library : Type 0 where
  pub maps : List (List ℕ × List MapOp)
  pub predicates : List (List ℕ × List PredOp)
  pub lifts : List (List ℕ × LiftOp)

-- the place of the function with this name
abbrev pub place_named : {A : Type 0} → List ℕ → List (List ℕ × A) → Option ℕ
place_named name functions = position (λ f. bytes_eq name f.0) functions

-- the operations of the function at a place
abbrev pub operations_at : {A : Type 0} → List (List ℕ × A) → ℕ → Option A
operations_at functions place = option_map (λ f. f.1) (slice_get functions place)
