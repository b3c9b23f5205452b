use Rattle.std.proofs.Common.{true, ap, ◌∙◌}
use Rattle.model_values.specs.Row.{Key}
use Rattle.lasp_value.specs.Value.{val_of}
use Rattle.lasp_logset.proofs.LiveLaws.{bury-row}
use Rattle.lasp_logset.proofs.buried.bury.Goals as goal

pub returns : goal.returns
returns c =
    bury-row c.args.rows.now.entries c.args.delta.now c.add.new.self (val_of c.args.value.now) c.args.place c.in-Some.name.now c.in-Some.field-0-1.now c.of.result c.requires c.in-Some.ensures.entry
    (c.of.ensures ∙ ap (λ (k : Key). (k, true)) c.in_ok-share.ensures) c.in_ok-add.ensures.ok
