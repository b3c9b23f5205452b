-- The operations of a predicate as plain data.
use Rattle.model_functions.specs.Predicate as plain
use Rattle.lasp_fns.specs.declared.predicate.PredOp.{PredOp}
use Rattle.lasp_fns.specs.declared.predicate.PredOp.TheVariants.{Even, Above, Below, IsText, StartsWith, KeyMatch, Same}

abbrev pub pred_op_of : PredOp → plain.PredOp
pred_op_of Even = plain.Even
pred_op_of (Above k) = plain.Above k
pred_op_of (Below k) = plain.Below k
pred_op_of IsText = plain.IsText
pred_op_of (StartsWith t) = plain.StartsWith t
pred_op_of KeyMatch = plain.KeyMatch
pred_op_of Same = plain.Same
