use Rattle.std.proofs.Common.{ℕ, ◌<◌, length}
use Rattle.lasp_logset.specs.Chains.{IsLiveAt, IsBehind}
use Rattle.lasp_logset.proofs.chains.Chains.newest_live.Given as goal

abbrev pub invariant-loop-behind : goal.invariant-loop-behind
invariant-loop-behind l = record {
  behind : IsBehind l.rows.entries l.hash (length l.self.older.items) l.behind;
  live : (i : ℕ) → i < length l.self.older.items → IsLiveAt l.rows.entries l.hash i → i < l.behind;
}

abbrev pub decreases-loop-behind : goal.decreases-loop-behind
decreases-loop-behind l = l.behind
