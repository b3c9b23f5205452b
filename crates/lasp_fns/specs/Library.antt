-- A library as plain data: the names of each kind, in order, with the operations of their functions.
use Rattle.std.specs.Prelude.{ℕ, List, [], map, unwrap_or}
use Rattle.model_functions.specs.Map.{MapOp}
use Rattle.model_functions.specs.Predicate.{PredOp}
use Rattle.model_functions.specs.Lift.{LiftOp, One}
use Rattle.lasp_fns.specs.declared.library.Library.{Library}
use Rattle.lasp_fns.specs.Stored.{ops_of, conditions_of, lift_of}
use Rattle.lasp_fns.specs.Named.{item_at}
use Rattle.lasp_fns.specs.Kept.{named_of}

abbrev pub maps_of : {a b c d e f g h i : _} → Library a b c d e f g h i → List (List ℕ × List MapOp)
maps_of l = map (λ n. (n.0, ops_of n.1)) (named_of l.maps)

abbrev pub predicates_of : {a b c d e f g h i : _} → Library a b c d e f g h i → List (List ℕ × List PredOp)
predicates_of l = map (λ n. (n.0, conditions_of n.1)) (named_of l.predicates)

abbrev pub lifts_of : {a b c d e f g h i : _} → Library a b c d e f g h i → List (List ℕ × LiftOp)
lifts_of l = map (λ n. (n.0, lift_of n.1)) (named_of l.lifts)

-- the operations of the map function at a place; none past the last place
abbrev pub map_ops_at : {a b c d e f g h i : _} → Library a b c d e f g h i → ℕ → List MapOp
map_ops_at l place = unwrap_or (item_at (maps_of l) place) []

-- the conditions of the predicate at a place; none past the last place
abbrev pub pred_ops_at : {a b c d e f g h i : _} → Library a b c d e f g h i → ℕ → List PredOp
pred_ops_at l place = unwrap_or (item_at (predicates_of l) place) []

-- the operation of the lift at a place; One past the last place
abbrev pub lift_op_at : {a b c d e f g h i : _} → Library a b c d e f g h i → ℕ → LiftOp
lift_op_at l place = unwrap_or (item_at (lifts_of l) place) One
