use Rattle.std.proofs.Common.{◌∙◌, ap}
use Rattle.std.specs.Ordering.{is_eq}
use Rattle.model_values.specs.Value.{Val, val_cmp}
use Rattle.lasp_value.specs.Value.{val_of}
use Rattle.lasp_logset.proofs.LiveLaws.{value-tests}
use Rattle.lasp_logset.proofs.live.is_of.Goals as goal

pub returns : goal.returns
returns c = value-tests c.args.name.now.0 (val_of c.args.value.now) c.is_eq.result (c.is_eq.ensures ∙ ap is_eq (c.compare_values.ensures ∙ ap (λ (u : Val). val_cmp u (val_of c.args.value.now)) c.value.ensures))
