use Rattle.std.proofs.Common.{ℕ, ◌≤◌}
use Rattle.lasp_value.specs.Value.{val_of}
use Rattle.lasp_logset.specs.Live.{IsLiveRow}
use Rattle.lasp_logset.proofs.live.scan_live.Given as goal

abbrev pub invariant-loop-place : goal.invariant-loop-place
invariant-loop-place l = (i : ℕ) → IsLiveRow l.rows.entries (val_of l.value) i → l.begin ≤ i → l.place ≤ i
