use Rattle.std.proofs.Common.{◌≡◌, IfOk, OnOk, OnErr, sym, subst}
use Rattle.std.specs.Arc.{arc_value}
use Rattle.model_graph.specs.Lawful.{IsDerived}
use Rattle.lasp_replica.specs.Replica.{IsReplica}
use Rattle.lasp_replica.specs.Jobs.{IsTaken, HasStarted}
use Rattle.lasp_replica.specs.declared.replica.Replica.{Replica}
use Rattle.lasp_replica.proofs.replica.Replica.take_var.Goals as goal

pub take_ready-requires-clause-replica : goal.take_ready-requires-clause-replica
take_ready-requires-clause-replica c = subst IsReplica (sym c.ready_inputs.ensures) c.requires.replica

pub take_ready-requires-clause-derived : goal.take_ready-requires-clause-derived
take_ready-requires-clause-derived c = subst (λ (r : Replica). IsDerived (arc_value r.graph) c.args.var) (sym c.ready_inputs.ensures) c.requires.derived

pub returns-clause-job : goal.returns-clause-job
returns-clause-job c = subst (λ (r : Replica). IfOk c.take_ready.result (IsTaken r c.args.var)) c.ready_inputs.ensures c.take_ready.ensures.job

pub returns-clause-ok : goal.returns-clause-ok
returns-clause-ok c = subst (λ (r : Replica). OnOk c.take_ready.result (HasStarted c.args.var r c.take_ready.new.self)) c.ready_inputs.ensures c.take_ready.ensures.ok

pub returns-clause-err : goal.returns-clause-err
returns-clause-err c = subst (λ (r : Replica). OnErr c.take_ready.result (c.take_ready.new.self ≡ r)) c.ready_inputs.ensures c.take_ready.ensures.err
