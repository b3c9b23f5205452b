use Rattle.std.proofs.Common.{◌∙◌}
use Rattle.lasp_logset.proofs.ShownLaws.{if-ok, shown-rows}
use Rattle.lasp_logset.proofs.orset.OrSet.shown.Goals as goal

pub returns-in_ok-sorted-in-Past : goal.returns-in_ok-sorted-in-Past
returns-in_ok-sorted-in-Past c = if-ok c.shown_of.result _ _
    (λ values made. shown-rows c.as_slice.result.now c.args.self.now values.items c.ascends.ensures (c.as_slice.ensures.value ∙ c.in_ok-sorted-in-Past.ensures) made) c.shown_of.ensures
