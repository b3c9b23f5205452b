-- What the tables of functions are as plain data.
use Rattle.std.specs.Prelude.{ℕ, List, map}
use Rattle.std.specs.Borrow.{Bor}
use Rattle.model_functions.specs.Map as plain_map
use Rattle.model_functions.specs.Predicate as plain
use Rattle.model_functions.specs.Lift as plain_lift
use Rattle.lasp_fns.specs.declared.map.MapOp.{MapOp}
use Rattle.lasp_fns.specs.declared.lift.LiftOp.{LiftOp}
use Rattle.lasp_fns.specs.Map.{map_op_of}
use Rattle.lasp_fns.specs.Lift.{lift_op_of}
use Rattle.lasp_program.specs.declared.functions.Condition.{Condition}
use Rattle.lasp_program.specs.declared.functions.Condition.TheVariants.{Even, Above, Below, IsText, StartsWith, KeyMatch, Same}

abbrev pub condition_view : Condition → plain.PredOp
condition_view Even = plain.Even
condition_view (Above k) = plain.Above k
condition_view (Below k) = plain.Below k
condition_view IsText = plain.IsText
condition_view (StartsWith t) = plain.StartsWith t.now
condition_view KeyMatch = plain.KeyMatch
condition_view Same = plain.Same

-- an entry of each table: the name with the operations
abbrev pub map_entry : Bor (List ℕ) × Bor (List MapOp) → List ℕ × List plain_map.MapOp
map_entry e = (e.0.now, map map_op_of e.1.now)

abbrev pub predicate_entry : Bor (List ℕ) × Bor (List Condition) → List ℕ × List plain.PredOp
predicate_entry e = (e.0.now, map condition_view e.1.now)

abbrev pub lift_entry : Bor (List ℕ) × LiftOp → List ℕ × plain_lift.LiftOp
lift_entry e = (e.0.now, lift_op_of e.1)
