use Rattle.std.proofs.Common.{◌≡◌}
use Rattle.lasp_threads.specs.Spots.{spots_of}
use Rattle.lasp_threads.proofs.worker.WorkerWorksLibrary.work.Given as goal

abbrev pub invariant-loop : goal.invariant-loop
invariant-loop g l = record {
  stay : spots_of l.self.replicas ≡ spots_of l.fn.self.replicas;
}
