-- Replicas as contracts see them: pairs of a node and what hands out its jobs.
use Rattle.std.specs.Prelude.{ℕ, List, map}
use Rattle.lasp_workers.specs.declared.replicas.Replica.{Replica}
use Rattle.lasp_workers.specs.declared.replicas.Replicas.{Replicas}

abbrev pub pair_of : {J : Type 0} → Replica J → ℕ × J
pair_of r = (r.node, r.jobs)

abbrev pub pairs_of : {J : Type 0} → Replicas J → List (ℕ × J)
pairs_of replicas = map pair_of replicas.items.items
