-- Kinds as plain data.
use Rattle.model_graph.specs.Graph as plain
use Rattle.lasp_graph.specs.declared.kind.Kind.{Kind}
use Rattle.lasp_graph.specs.declared.kind.Kind.TheVariants.{OrSet, GSet, Counter, MaxReg, Union, Product, Intersection, Map, Filter, Fold}
use Rattle.lasp_graph.specs.declared.kind.FoldOp.{FoldOp}
use Rattle.lasp_graph.specs.declared.kind.FoldOp.TheVariants.{Sum, Xor, Modulo}
use Rattle.lasp_fns.specs.Lift.{lift_op_of}

abbrev pub fold_op_of : FoldOp → plain.FoldOp
fold_op_of Sum = plain.Sum
fold_op_of Xor = plain.Xor
fold_op_of (Modulo n) = plain.Modulo n

abbrev pub kind_of : Kind → plain.Kind
kind_of OrSet = plain.OrSet
kind_of GSet = plain.GSet
kind_of Counter = plain.Counter
kind_of MaxReg = plain.MaxReg
kind_of (Union x y) = plain.Union x y
kind_of (Product x y) = plain.Product x y
kind_of (Intersection x y) = plain.Intersection x y
kind_of (Map x f) = plain.Map x f.place f.ops
kind_of (Filter x p) = plain.Filter x p.place p.ops
kind_of (Fold x op l) = plain.Fold x (fold_op_of op) l.place (lift_op_of l.op)
