-- The operation of a lift as plain data.
use Rattle.model_functions.specs.Lift as plain
use Rattle.lasp_fns.specs.declared.lift.LiftOp.{LiftOp}
use Rattle.lasp_fns.specs.declared.lift.LiftOp.TheVariants.{One, Itself, Length, First}

abbrev pub lift_op_of : LiftOp → plain.LiftOp
lift_op_of One = plain.One
lift_op_of Itself = plain.Itself
lift_op_of Length = plain.Length
lift_op_of First = plain.First
