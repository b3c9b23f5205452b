use Rattle.std.proofs.Common.{◌≡◌, ◌≤◌, ℕ, true, length, take}
use Rattle.std.specs.Prelude.{All, map}
use Rattle.lasp_fns.specs.Steps as counted
use Rattle.lasp_graph.specs.Library.{library_of}
use Rattle.lasp_replica.specs.Jobs.{counted_up}
use Rattle.lasp_workers.specs.Replicas.{pair_of}
use Rattle.lasp_workers.specs.Worked.{HaveWorked, IsLeftDone, IsDoneAt}
use Rattle.lasp_workers.proofs.round.go_round.Given as goal

abbrev pub invariant-loop-i : goal.invariant-loop-i
invariant-loop-i g l = record {
  worked : (n : ℕ) × (l.round.finished ≡ counted_up 0 n)
      × HaveWorked g.J.Jobs.place g.J.Jobs.frame g.J.Jobs.caller g.J.Jobs.list g.J.Jobs.looks g.J.Jobs.rows_owed n (counted.ticks_of l.fn.lib) (counted.ticks_of l.lib) (map pair_of l.fn.replicas) (map pair_of l.replicas);
  left : All (IsLeftDone g.J.Jobs.frame g.J.Jobs.list (library_of (counted.library_of l.fn.lib))) l.replicas;
  done : l.round.is_done ≡ true → All (IsDoneAt g.J.Jobs.frame g.J.Jobs.list (library_of (counted.library_of l.fn.lib))) (map pair_of (take l.i l.replicas));
  library : counted.library_of l.lib ≡ counted.library_of l.fn.lib;
  within : l.i ≤ length l.replicas;
  end : l.i-end ≡ length l.replicas;
}
