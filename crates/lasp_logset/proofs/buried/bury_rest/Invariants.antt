use Rattle.std.proofs.Common.{ℕ, ◌<◌, ◌≤◌, ◌-◌, length}
use Rattle.lasp_value.specs.Value.{val_of}
use Rattle.lasp_logset.specs.Live.{IsLiveRow, AreBuried, IsLeft}
use Rattle.lasp_logset.proofs.buried.bury_rest.Given as goal

abbrev pub invariant-loop-place : goal.invariant-loop-place
invariant-loop-place l = record {
  buried : AreBuried l.rows.entries (val_of l.value) l.delta;
  left : (i : ℕ) → IsLeft l.rows.entries (val_of l.value) l.delta i → l.place ≤ i;
  next : l.place < length l.rows.entries → IsLiveRow l.rows.entries (val_of l.value) l.place;
}

abbrev pub decreases-loop-place : goal.decreases-loop-place
decreases-loop-place l = length l.rows.entries - l.place
