use Rattle.std.proofs.Common.{◌≡◌, ◌≤◌, false, length, take}
use Rattle.std.specs.Prelude.{All, map}
use Rattle.lasp_workers.specs.Replicas.{pair_of}
use Rattle.lasp_workers.proofs.round.leave_none.Given as goal

abbrev pub invariant-loop-i : goal.invariant-loop-i
invariant-loop-i g l = record {
  same : map pair_of l.replicas ≡ map pair_of l.fn.replicas;
  none : All (λ r. r.is_left ≡ false) (take l.i l.replicas);
  within : l.i ≤ length l.replicas;
}
