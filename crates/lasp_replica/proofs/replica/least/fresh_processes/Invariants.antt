use Rattle.std.proofs.Common.{◌≡◌, map, take}
use Rattle.lasp_replica.specs.Parts.{fresh_base}
use Rattle.lasp_replica.specs.Replica.{seen_process, jobs_of}
use Rattle.lasp_replica.proofs.replica.least.fresh_processes.Given as goal

abbrev pub invariant-loop-x : goal.invariant-loop-x
invariant-loop-x l =
    (map seen_process l.processes.items ≡ map (λ d. fresh_base d.kind) (take l.x l.graph))
    × (map jobs_of l.processes.items ≡ map (λ d. 0) (take l.x l.graph))
