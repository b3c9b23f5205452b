use Rattle.std.proofs.Common.{◌≡◌, ◌++◌, None, drop}
use Rattle.std.specs.Option.{option_map}
use Rattle.model_sets.specs.Values.{live_values}
use Rattle.lasp_value.specs.Value.{val_of}
use Rattle.lasp_logset.specs.Shown.{thinned}
use Rattle.lasp_logset.proofs.shown.shown_of.Given as goal

abbrev pub invariant-loop-row : goal.invariant-loop-row
invariant-loop-row l = l.values.items ++ thinned (option_map (λ v. val_of v.now) l.last) (live_values (drop l.row-index l.rows)) ≡ thinned None (live_values l.rows)
