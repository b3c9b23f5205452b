use Rattle.std.proofs.Common.{◌≡◌, ℕ, IfOk, sym, subst}
use Rattle.model_graph.specs.Fold.{fold_rows}
use Rattle.model_graph.specs.Graph as plain
use Rattle.lasp_fns.specs.Library.{lift_op_at}
use Rattle.lasp_fns.specs.Steps.{library_of}
use Rattle.lasp_graph.specs.declared.kind.FoldOp.{FoldOp}
use Rattle.lasp_graph.specs.Kind.{fold_op_of}
use Rattle.lasp_graph.proofs.increment.number_after.Goals as goal

pub returns-in-Sum-clause-number : goal.returns-in-Sum-clause-number
returns-in-Sum-clause-number g c =
    subst (λ (o : FoldOp). IfOk c.fold_increment.result (λ n. n ≡ fold_rows (fold_op_of o) (lift_op_at (library_of c.args.lib.now) c.args.lift) c.args.x.now)) (sym c.in-Sum.is) c.fold_increment.ensures.exact

pub returns-in-Xor-clause-number : goal.returns-in-Xor-clause-number
returns-in-Xor-clause-number g c =
    subst (λ (o : FoldOp). IfOk c.fold_increment-in-Xor.result (λ n. n ≡ fold_rows (fold_op_of o) (lift_op_at (library_of c.args.lib.now) c.args.lift) c.args.x.now)) (sym c.in-Xor.is) c.fold_increment-in-Xor.ensures.exact

pub returns-in-Modulo-clause-number : goal.returns-in-Modulo-clause-number
returns-in-Modulo-clause-number g c =
    subst (λ (o : FoldOp). IfOk c.fold_increment-in-Modulo.result (λ n. n ≡ fold_rows (fold_op_of o) (lift_op_at (library_of c.args.lib.now) c.args.lift) c.args.x.now)) (sym c.in-Modulo.is)
    (subst (λ (m : ℕ). IfOk c.fold_increment-in-Modulo.result (λ n. n ≡ fold_rows (plain.Modulo m) (lift_op_at (library_of c.args.lib.now) c.args.lift) c.args.x.now)) c.new.ensures c.fold_increment-in-Modulo.ensures.exact)
