use Rattle.std.proofs.Common.{◌≡◌, ◌∙◌, ℕ, Some, slice_get, sym, ap, arith}
use Rattle.std.specs.Arc.{arc_value}
use Rattle.lasp_state.specs.State.{shape_of}
use Rattle.lasp_graph.specs.States.{held_of}
use Rattle.lasp_core.proofs.LackLaws.{news-here}
use Rattle.lasp_core.proofs.news.Came.to.Goals as goal

pub returns-in-Ok : goal.returns-in-Ok
returns-in-Ok c =
    let r = c.args.replica.now in
    let at : slice_get r.states c.args.var ≡ Some (held_of (arc_value c.at.result.now)) = ap (λ (x : ℕ). slice_get r.states x) (sym c.from-2.ensures) ∙ c.at.ensures in
    news-here r c.requires c.args.n c.args.var (omega (arith, c.if-var-len.false, r.histories.ok.0)) (arc_value c.at.result.now) at (sym (ap shape_of c.deref.ensures) ∙ c.is_set.ensures c.if-not-is_set.false)
    c.index-history.result.now c.index-history.ensures c.since.result c.since.ensures c.in-Ok.rows c.in-Ok.is
