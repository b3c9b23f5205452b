use Rattle.std.proofs.Common.{◌≡◌, ℕ, suc, ◌<◌, ◌≤◌, IsTrue, length, slice_get}
use Rattle.lasp_value.specs.Value.{val_of}
use Rattle.lasp_logset.specs.Places.{IsRowOf, is_row_as}
use Rattle.lasp_logset.proofs.any_row.has_in_chain.Given as goal

abbrev pub invariant-loop-behind : goal.invariant-loop-behind
invariant-loop-behind l = record {
  within : l.behind ≤ length l.places.older.items;
  found : (k : ℕ) → l.behind ≡ suc k → IsRowOf l.rows.entries (val_of l.value) k;
  passed : (i : ℕ) → IsTrue (is_row_as (val_of l.value) l.dead (slice_get l.rows.entries i)) → i < length l.places.older.items → i < l.behind;
}

abbrev pub decreases-loop-behind : goal.decreases-loop-behind
decreases-loop-behind l = l.behind
