use Rattle.std.proofs.Common.{ℕ, ◌<◌, ◌≤◌, length}
use Rattle.lasp_value.specs.Value.{val_of}
use Rattle.lasp_logset.specs.Chains.{value_hash, IsBehind}
use Rattle.lasp_logset.specs.Places.{IsRowOf}
use Rattle.lasp_logset.proofs.places.Places.row_from.Given as goal

abbrev pub invariant-loop-behind : goal.invariant-loop-behind
invariant-loop-behind l = record {
  behind : IsBehind l.rows.entries (value_hash (val_of l.value)) (length l.self.older.items) l.behind;
  passed : (i : ℕ) → IsRowOf l.rows.entries (val_of l.value) i → i < l.begin → i < l.behind;
  falls : l.behind ≤ l.begin;
}

abbrev pub decreases-loop-behind : goal.decreases-loop-behind
decreases-loop-behind l = l.behind
