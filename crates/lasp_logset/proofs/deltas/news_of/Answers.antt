use Rattle.std.proofs.Common.{nat_lt, ap, ◌∙◌}
use Rattle.model_values.specs.Row.{Row}
use Rattle.model_sets.specs.Rows.{level, mark, put}
use Rattle.lasp_logset.proofs.WholeLaws.{news-more, news-end}
use Rattle.lasp_logset.proofs.deltas.news_of.Goals as goal

pub loop-row-preserved-in_ok-add : goal.loop-row-preserved-in_ok-add
loop-row-preserved-in_ok-add c =
    let says = c.lacks_near.ensures ∙ (λ i. nat_lt (mark c.args.known.now (c.name.ensures i).0 (c.name.ensures i).1) (level (c.is_dead.ensures i))) in
    news-more c.args.known.now c.loop-row.news c.add.new.self c.args.rows c.loop-row.left c.next.new.self c.in-Some.row c.lacks_near.result c.in-Some.ensures.some says c.if-lacks_near.true
    (c.in_ok-add.ensures.ok ∙ ap (λ (r : Row). put r c.loop-row.news) c.in_ok-entry.ensures) c.loop-row.invariant

pub returns : goal.returns
returns c = news-end c.args.known.now c.loop-row.news c.args.rows c.loop-row.left c.ascends.ensures c.in_default.ensures.none c.loop-row.invariant
