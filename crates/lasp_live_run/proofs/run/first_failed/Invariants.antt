use Rattle.std.proofs.Common.{◌≡◌, ◌-◌, ◌≤◌, drop, length}
use Rattle.lasp_live_run.specs.Run.{failed_of}
use Rattle.lasp_live_run.proofs.run.first_failed.Given as goal

abbrev pub invariant-loop-k : goal.invariant-loop-k
invariant-loop-k l = record {
  within : l.k ≤ length l.diaries;
  failed : l.failed ≡ failed_of (drop (length l.diaries - l.k) l.diaries);
}
