use Rattle.std.proofs.Common.{◌≡◌, ◌++◌, None, drop}
use Rattle.std.specs.Option.{option_map}
use Rattle.lasp_value.specs.Value.{val_of}
use Rattle.lasp_logset.specs.Shown.{thinned}
use Rattle.lasp_logset.proofs.shown.each_once.Given as goal

abbrev pub invariant-loop-shown : goal.invariant-loop-shown
invariant-loop-shown l = l.once.items ++ thinned (option_map (λ v. val_of v.now) l.last) (drop l.shown-index l.values) ≡ thinned None l.values
