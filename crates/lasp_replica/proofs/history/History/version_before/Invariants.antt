use Rattle.std.proofs.Common.{◌≡◌, ◌≤◌, length, drop}
use Rattle.lasp_replica.specs.History.{version_before}
use Rattle.lasp_replica.proofs.history.History.version_before.Given as goal

abbrev pub invariant-loop-count : goal.invariant-loop-count
invariant-loop-count l = (l.count ≤ length l.self.history.growths) × (version_before (drop l.count l.self.history.growths) l.n ≡ 0)

abbrev pub decreases-loop-count : goal.decreases-loop-count
decreases-loop-count l = l.count
