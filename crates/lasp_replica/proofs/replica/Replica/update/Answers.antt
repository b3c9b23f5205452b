use Rattle.std.proofs.Common.{OnOk, OnErr, length, sym, subst}
use Rattle.std.specs.Arc.{arc_value}
use Rattle.model_journal.specs.Entry as model
use Rattle.model_journal.specs.Entry.{entry}
use Rattle.lasp_state.specs.State.{op_of}
use Rattle.lasp_graph.specs.States.{contents_of}
use Rattle.lasp_replica.specs.Replica.{IsReplica, IsSmall, Goes, Stays, update_refusal, IsAnswered}
use Rattle.lasp_replica.specs.declared.replica.Replica.{Replica}
use Rattle.lasp_replica.proofs.replica.Replica.update.Goals as goal

pub update_ready-requires-clause-replica : goal.update_ready-requires-clause-replica
update_ready-requires-clause-replica c = subst IsReplica (sym c.ready_source.ensures) c.requires.replica

pub update_ready-requires-clause-small : goal.update_ready-requires-clause-small
update_ready-requires-clause-small c = subst (λ (r : Replica). IsSmall (length r.counts) c.args.op.now) (sym c.ready_source.ensures) c.requires.small

pub returns-clause-ok : goal.returns-clause-ok
returns-clause-ok c =
    subst (λ (r : Replica). OnOk c.update_ready.result (Goes (entry c.args.by (model.Update c.args.var (op_of c.args.op.now))) r c.update_ready.new.self)) c.ready_source.ensures c.update_ready.ensures.ok

pub returns-clause-err : goal.returns-clause-err
returns-clause-err c = subst (λ (r : Replica). OnErr c.update_ready.result (Stays r c.update_ready.new.self)) c.ready_source.ensures c.update_ready.ensures.err

pub returns-clause-answer : goal.returns-clause-answer
returns-clause-answer c =
    subst (λ (r : Replica). IsAnswered (update_refusal (length r.counts) r.me (arc_value r.graph) (contents_of r.states) r.counts c.args.var c.args.op.now) c.update_ready.result) c.ready_source.ensures c.update_ready.ensures.answer
