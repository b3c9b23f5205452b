use Rattle.std.proofs.Common.{◌≡◌, ℕ, suc, ◌<◌, length}
use Rattle.lasp_value.specs.Value.{val_of}
use Rattle.lasp_logset.specs.Chains.{value_hash, IsBehind}
use Rattle.lasp_logset.specs.Live.{IsLiveRow, AreBuried, IsLeft}
use Rattle.lasp_logset.proofs.buried.bury_chain.Given as goal

abbrev pub invariant-loop-behind : goal.invariant-loop-behind
invariant-loop-behind l = record {
  buried : AreBuried l.rows.entries (val_of l.value) l.delta;
  behind : IsBehind l.rows.entries (value_hash (val_of l.value)) (length l.chains.older.items) l.behind;
  found : (k : ℕ) → l.behind ≡ suc k → IsLiveRow l.rows.entries (val_of l.value) k;
  left : (i : ℕ) → IsLeft l.rows.entries (val_of l.value) l.delta i → i < length l.chains.older.items → i < l.behind;
}

abbrev pub decreases-loop-behind : goal.decreases-loop-behind
decreases-loop-behind l = l.behind
