use Rattle.std.proofs.Common.{ℕ, ◌<◌, ◌≤◌}
use Rattle.lasp_value.specs.Value.{val_of}
use Rattle.lasp_logset.specs.Places.{IsRowOf}
use Rattle.lasp_logset.proofs.places.scan_back.Given as goal

abbrev pub invariant-loop-behind : goal.invariant-loop-behind
invariant-loop-behind l = record {
  within : l.first ≤ l.behind;
  passed : (i : ℕ) → IsRowOf l.rows.entries (val_of l.value) i → l.first ≤ i → i < l.place → i < l.behind;
  falls : l.behind ≤ l.place;
}

abbrev pub decreases-loop-behind : goal.decreases-loop-behind
decreases-loop-behind l = l.behind
