use Rattle.std.proofs.Common.{ap, ◌∙◌}
use Rattle.model_sets.specs.Reads.{is_row_of}
use Rattle.lasp_value.specs.Value.{val_of}
use Rattle.lasp_logset.specs.Places.{is_row_as}
use Rattle.lasp_logset.proofs.any_row.is_row_as.Goals as goal

pub returns-in-Some : goal.returns-in-Some
returns-in-Some c =
    c.is_row_of.ensures ∙ ap (is_row_of (val_of c.args.value.now) c.args.dead) c.of.ensures ∙ ap (is_row_as (val_of c.args.value.now) c.args.dead) c.in-Some.ensures.entry
