use Rattle.lasp_logset.proofs.ShownLaws.{if-ok, shown-ascending, shown-sorted}
use Rattle.lasp_logset.proofs.set.LogSet.shown.Goals as goal

pub returns-then-ascend : goal.returns-then-ascend
returns-then-ascend c =
    shown-ascending c.parts.result.0.now.entries c.args.self.now c.in_ok-values.values.items c.in_ok-values.ascend c.parts.ensures.kept c.parts.ensures.apart c.in_ok-values.ensures.values c.in_ok-values.ensures.ascend c.if-ascend.true

pub returns : goal.returns
returns c = if-ok c.each_once.result _ _
    (λ once made.
    shown-sorted c.parts.result.0.now.entries c.args.self.now c.in_ok-values.values.items c.sort.new.self.items c.as_slice.result.now once.items c.parts.ensures.kept c.parts.ensures.apart c.in_ok-values.ensures.values c.sort.ensures.permutation
    c.in_ok-sort.ensures.sorted c.as_slice.ensures.value made) c.each_once.ensures
