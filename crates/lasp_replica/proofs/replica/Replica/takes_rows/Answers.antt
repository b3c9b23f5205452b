use Rattle.std.proofs.Common.{sym, subst}
use Rattle.std.specs.Arc.{arc_value}
use Rattle.lasp_graph.specs.States.{HasRows, Held}
use Rattle.lasp_replica.proofs.TakeLaws.{states-at}
use Rattle.lasp_replica.proofs.FinishLaws.{held-rows}
use Rattle.lasp_replica.proofs.InPlaceLaws.{held-there}
use Rattle.lasp_replica.proofs.replica.Replica.takes_rows.Goals as goal

pub at-requires : goal.at-requires
at-requires c = states-at c.args.self.now c.requires.replica c.args.var c.from.result c.from.ensures c.requires.derived.declared

pub rows_of-requires : goal.rows_of-requires
rows_of-requires c =
    let r = c.args.self.now in
    let old = held-there r.states c.from.result c.args.var (arc_value c.at.result.now) c.deref.result.now c.from.ensures c.at.ensures c.deref.ensures in
    subst (λ (h : Held). HasRows h.shape) (sym old) (held-rows r c.requires.replica c.args.var c.requires.derived)
