use Rattle.std.proofs.Common.{sym, subst}
use Rattle.std.specs.Arc.{arc_value}
use Rattle.model_graph.specs.Lawful.{IsDerived}
use Rattle.lasp_replica.specs.Replica.{IsReplica}
use Rattle.lasp_replica.specs.declared.replica.Replica.{Replica}
use Rattle.lasp_replica.proofs.replica.Replica.unread.Goals as goal

pub unread_ready-requires-clause-replica : goal.unread_ready-requires-clause-replica
unread_ready-requires-clause-replica c = subst IsReplica (sym c.ready_in_place.ensures) c.requires.replica

pub unread_ready-requires-clause-derived : goal.unread_ready-requires-clause-derived
unread_ready-requires-clause-derived c = subst (λ (r : Replica). IsDerived (arc_value r.graph) c.args.var) (sym c.ready_in_place.ensures) c.requires.derived
