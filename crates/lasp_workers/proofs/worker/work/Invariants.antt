use Rattle.std.proofs.Common.{◌≡◌, ◌≤◌, ℕ, length, take}
use Rattle.std.specs.Prelude.{All, map}
use Rattle.lasp_fns.specs.Steps as counted
use Rattle.lasp_graph.specs.Library.{library_of}
use Rattle.lasp_replica.specs.Jobs.{counted_up}
use Rattle.lasp_workers.specs.Replicas.{pair_of, pairs_of}
use Rattle.lasp_workers.specs.Worked.{HaveWorked, IsLeftDone}
use Rattle.lasp_workers.proofs.worker.work.Given as goal

abbrev pub invariant-loop : goal.invariant-loop
invariant-loop g l = record {
  worked : (n : ℕ) × (l.finished ≡ counted_up 0 n)
      × HaveWorked g.J.Jobs.place g.J.Jobs.frame g.J.Jobs.caller g.J.Jobs.list g.J.Jobs.looks g.J.Jobs.rows_owed n (counted.ticks_of l.fn.lib) (counted.ticks_of l.lib) (pairs_of l.fn.replicas) (map pair_of l.items.items);
  left : All (IsLeftDone g.J.Jobs.frame g.J.Jobs.list (library_of (counted.library_of l.fn.lib))) l.items.items;
  library : counted.library_of l.lib ≡ counted.library_of l.fn.lib;
  short : l.pause ≤ 262144;
}
