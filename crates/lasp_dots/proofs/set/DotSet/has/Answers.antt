use Rattle.std.proofs.Common.{ap, ◌∙◌}
use Rattle.std.specs.List.{list_any}
use Rattle.model_sets.specs.Rows.{is_of}
use Rattle.lasp_value.specs.Value.{val_of}
use Rattle.lasp_dots.proofs.PlaceLaws.{any-visible}
use Rattle.lasp_dots.proofs.set.DotSet.has.Goals as goal

pub returns : goal.returns
returns c =
    any-visible (val_of c.args.value.now) c.args.self.now.rows c.holds.ensures.ascends c.holds.ensures.live c.has_value.result
    (c.has_value.ensures ∙ ap (λ s. list_any (is_of (val_of c.args.value.now)) s) (ap (λ z. z.rows) c.self.view_is))
