use Rattle.std.proofs.Common.{◌≡◌, ◌++◌, ◌&&◌, None, length}
use Rattle.std.specs.Option.{option_map}
use Rattle.model_sets.specs.Values.{live_values}
use Rattle.lasp_value.specs.Value.{val_of}
use Rattle.lasp_logset.specs.Shown.{thinned, rises}
use Rattle.lasp_logset.proofs.shown.live_values.Given as goal

abbrev pub invariant-loop-name : goal.invariant-loop-name
invariant-loop-name l = record {
  values : l.values.items ++ thinned (option_map (λ v. val_of v.now) l.last) (live_values l.left) ≡ thinned None (live_values l.rows.entries);
  ascend : (l.ascend && rises (option_map (λ v. val_of v.now) l.last) (live_values l.left)) ≡ rises None (live_values l.rows.entries);
}

abbrev pub decreases-loop-name : goal.decreases-loop-name
decreases-loop-name l = length l.left
