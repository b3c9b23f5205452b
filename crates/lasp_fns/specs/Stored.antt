-- The operations whose meaning a stored function has.
use Rattle.std.specs.Prelude.{List}
use Rattle.model_functions.specs.Map.{MapOp}
use Rattle.model_functions.specs.Predicate.{PredOp}
use Rattle.model_functions.specs.Lift.{LiftOp}
use Rattle.lasp_fns.specs.declared.stored.StoredMap.{StoredMap}
use Rattle.lasp_fns.specs.declared.stored.StoredPred.{StoredPred}
use Rattle.lasp_fns.specs.declared.stored.StoredLift.{StoredLift}
use Rattle.lasp_fns.specs.Lift.{lift_op_of}

-- the operations of a stored map function
abbrev pub ops_of : {d : _} {F : _} {g : _} → StoredMap d F g → List MapOp
ops_of f = f.ops

-- the conditions of a stored predicate
abbrev pub conditions_of : {d : _} {F : _} {g : _} → StoredPred d F g → List PredOp
conditions_of f = f.ops

-- the operation of a stored lift
abbrev pub lift_of : {d : _} {F : _} {g : _} → StoredLift d F g → LiftOp
lift_of f = lift_op_of f.op
