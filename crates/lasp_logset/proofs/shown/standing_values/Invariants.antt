use Rattle.std.proofs.Common.{◌≡◌, ◌++◌, None, IsTrue, drop}
use Rattle.std.specs.Option.{option_map}
use Rattle.model_sets.specs.Values.{IsWithin, live_values}
use Rattle.lasp_value.specs.Value.{val_of}
use Rattle.lasp_logset.specs.Few.{values_at}
use Rattle.lasp_logset.specs.Shown.{thinned, rises}
use Rattle.lasp_logset.proofs.shown.standing_values.Given as goal

abbrev pub invariant-loop-place : goal.invariant-loop-place
invariant-loop-place l = record {
  whole : l.values.items ++ thinned (option_map (λ v. val_of v.now) l.last) (values_at l.rows.entries (drop l.place-index l.places)) ≡ thinned None (values_at l.rows.entries l.places);
  rises : IsTrue (rises (option_map (λ v. val_of v.now) l.last) (values_at l.rows.entries (drop l.place-index l.places))) → IsTrue (rises None (values_at l.rows.entries l.places));
  live : IsWithin l.values.items (live_values l.rows.entries);
}
