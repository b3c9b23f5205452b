use Rattle.std.proofs.Common.{ap, ◌∙◌, arith, length}
use Rattle.lasp_dots.proofs.PartLaws.{on_ok}
use Rattle.lasp_dots.proofs.PieceLaws.{pushed-last}
use Rattle.lasp_dots.proofs.pieces.insertion.push_item.Goals as goal

pub returns-clause-ok : goal.returns-clause-ok
returns-clause-ok g c =
    on_ok c.insert_at.result
    (λ e. e
    ∙ pushed-last c.args.pieces.now.items c.len-count.result (length c.items-at.result.now) c.index.result.now c.args.item (omega (arith, c.len-count.ensures, c.args.pieces.now.ok)) (omega (arith, c.if-count-eq0.false))
    c.index.ensures (ap length c.items-at.ensures)) c.insert_at.ensures.ok
