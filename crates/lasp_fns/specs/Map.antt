-- The operations of a map function as plain data.
use Rattle.model_functions.specs.Map as plain
use Rattle.lasp_fns.specs.declared.map.MapOp.{MapOp}
use Rattle.lasp_fns.specs.declared.map.MapOp.TheVariants.{Add, Times, Neg, Abs, First, Second, Swap, Length, Lower}

abbrev pub map_op_of : MapOp → plain.MapOp
map_op_of (Add k) = plain.Add k
map_op_of (Times k) = plain.Times k
map_op_of Neg = plain.Neg
map_op_of Abs = plain.Abs
map_op_of First = plain.First
map_op_of Second = plain.Second
map_op_of Swap = plain.Swap
map_op_of Length = plain.Length
map_op_of Lower = plain.Lower
