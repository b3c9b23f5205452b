use Rattle.std.proofs.Common.{List, ap, ◌∙◌}
use Rattle.model_values.specs.Row.{Row}
use Rattle.model_sets.specs.Rows.{of_rows}
use Rattle.lasp_value.specs.Value.{val_of}
use Rattle.lasp_logset.proofs.WholeLaws.{held-state}
use Rattle.lasp_logset.proofs.orset.OrSet.has.Goals as goal

pub returns-in-Ok : goal.returns-in-Ok
returns-in-Ok c = held-state c.deref.result.now c.args.self.now (val_of c.args.value.now) c.has.result (ap (λ (s : List Row). of_rows s) c.deref.ensures ∙ c.in-Ok.ensures) c.has.ensures

pub returns-in-Err : goal.returns-in-Err
returns-in-Err c = held-state c.log.result.now.items c.args.self.now (val_of c.args.value.now) c.has_live_in.result c.log.ensures.rows c.has_live_in.ensures
