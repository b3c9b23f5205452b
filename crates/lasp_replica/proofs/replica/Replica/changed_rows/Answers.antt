use Rattle.std.proofs.Common.{arith, drop}
use Rattle.std.specs.Arc.{arc_value}
use Rattle.model_sets.specs.Rows.{of_rows}
use Rattle.lasp_replica.specs.History.{rows_before}
use Rattle.lasp_replica.specs.Replica.{growths_at, log_at}
use Rattle.lasp_replica.proofs.SettledLaws.{histories-many}
use Rattle.lasp_replica.proofs.TakeLaws.{states-at, set-state, all-changed, ok-same}
use Rattle.lasp_replica.proofs.InPlaceLaws.{rises-there}
use Rattle.lasp_replica.proofs.replica.Replica.changed_rows.Goals as goal

pub at-requires : goal.at-requires
at-requires c = states-at c.args.self.now c.requires.replica c.args.x c.from.result c.from.ensures c.requires.var

pub list_since-requires : goal.list_since-requires
list_since-requires c = rises-there c.args.self.now c.requires.replica c.args.x c.requires.var c.index-history.result.now c.index-history.ensures

pub unreachable-requires : goal.unreachable-requires
unreachable-requires c = set-state c.args.self.now c.requires.replica c.args.x c.from.result c.requires.var c.requires.set (arc_value c.at.result.now) c.deref.result.now c.from.ensures c.at.ensures c.deref.ensures c.in_default.not-Set

pub returns : goal.returns
returns c =
    let r = c.args.self.now in
    ok-same c.of_set.result c.in-Set.rows (of_rows (drop (rows_before (growths_at r c.args.x) c.args.n) (log_at r c.args.x))) c.of_set.ensures
    (all-changed r c.requires.replica c.args.x c.from.result c.requires.var c.requires.set (arc_value c.at.result.now) c.deref.result.now c.in-Set.rows c.from.ensures c.at.ensures c.deref.ensures c.in-Set.is
    c.args.n c.rows_before.result c.index-history.result.now (omega (arith, c.requires.var, histories-many r c.requires.replica)) c.index-history.ensures c.rows_before.ensures.exact c.if-rows_before-gt0.false)
