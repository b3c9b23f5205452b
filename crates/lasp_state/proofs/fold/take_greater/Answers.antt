use Rattle.std.proofs.Common.{◌∙◌, ap}
use Rattle.lasp_state.specs.State.{content_of, number_of}
use Rattle.lasp_state.proofs.FoldLaws.{kept-join, taken-join, kept-number, taken-number, refuted}
use Rattle.lasp_state.proofs.fold.take_greater.Goals as goal

pub returns-then-le-clause-ok : goal.returns-then-le-clause-ok
returns-then-le-clause-ok c = kept-join c.args.mine.now c.args.other.now c.requires.shape c.recall.ensures.ordered (c.le.ensures.0 c.if-le.true)

pub returns-then-le-clause-number : goal.returns-then-le-clause-number
returns-then-le-clause-number c = kept-number c.args.mine.now c.args.other.now (c.le.ensures.0 c.if-le.true)

pub returns-clause-ok : goal.returns-clause-ok
returns-clause-ok c =
    ap content_of c.in_ok-mine.ensures
    ∙ taken-join c.args.mine.now c.args.other.now c.requires.shape c.recall-2.ensures.ordered c.requires.nested (λ h. refuted c.le.result (c.le.ensures.1 h) c.if-le.false)

pub returns-clause-number : goal.returns-clause-number
returns-clause-number c =
    ap number_of c.in_ok-mine.ensures
    ∙ taken-number c.args.mine.now c.args.other.now (λ h. refuted c.le.result (c.le.ensures.1 h) c.if-le.false)
