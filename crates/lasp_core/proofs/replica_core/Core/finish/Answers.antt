use Rattle.std.proofs.Common.{◌≡◌, ◌∷◌, [], map, ◌∙◌, subst}
use Rattle.model_journal.specs.Entry as model
use Rattle.model_journal.specs.Entry.{entry}
use Rattle.model_core.specs.Core.{Core, is_met, entered, released}
use Rattle.lasp_core.specs.Core.{core_of, returned}
use Rattle.lasp_core.specs.Reads.{read_of}
use Rattle.lasp_replica.specs.Replica.{frame_of, entries_of}
use Rattle.lasp_replica.specs.Jobs.{HasBound}
use Rattle.lasp_replica.specs.declared.replica.Replica.{Replica}
use Rattle.lasp_core.proofs.OrderLaws.{passed-ascend}
use Rattle.lasp_core.proofs.CoresLaws.{ready-sound, all-watched, all-waiting, entries-within, entered-sound, entries-many, bound-is, released-is}
use Rattle.lasp_core.proofs.replica_core.Core.finish.Goals as goal

pub split_met-requires-clause-within : goal.split_met-requires-clause-within
split_met-requires-clause-within c =
    let bound = c.in_ok-finish-in-Ok.ensures.ok in
    let e = entry c.args.by (model.Bind c.args.job.var c.args.job.n) in
    entries-within c.ready_reads.new.replica c.finish.new.self (e ∷ []) c.len-n.result bound.entries (c.len-n.ensures ∙ entries-many c.ready_reads.new.replica)

pub split_met-requires-clause-reads : goal.split_met-requires-clause-reads
split_met-requires-clause-reads c =
    let bound = c.in_ok-finish-in-Ok.ensures.ok in
    let e = entry c.args.by (model.Bind c.args.job.var c.args.job.n) in
    all-watched c.ready_reads.new.replica c.finish.new.self c.self.inside.parked.items c.self.inside.opened (e ∷ []) c.len-n.result (ready-sound c.self.inside.replica c.ready_reads.new.replica c.self.inside.parked.items c.self.inside.opened c.ready_reads.ensures c.self.invariant) bound.sound bound.frame bound.entries (c.len-n.ensures ∙ entries-many c.ready_reads.new.replica)

pub split_met-requires-clause-waits : goal.split_met-requires-clause-waits
split_met-requires-clause-waits c =
    let bound = c.in_ok-finish-in-Ok.ensures.ok in
    let e = entry c.args.by (model.Bind c.args.job.var c.args.job.n) in
    all-waiting c.ready_reads.new.replica c.finish.new.self c.self.inside.parked.items c.self.inside.opened (e ∷ []) c.len-n.result (ready-sound c.self.inside.replica c.ready_reads.new.replica c.self.inside.parked.items c.self.inside.opened c.ready_reads.ensures c.self.invariant) bound.sound bound.frame bound.entries (c.len-n.ensures ∙ entries-many c.ready_reads.new.replica)

pub invariant_of-self-in-Ok : goal.invariant_of-self-in-Ok
invariant_of-self-in-Ok c =
    let bound = c.in_ok-finish-in-Ok.ensures.ok in
    let e = entry c.args.by (model.Bind c.args.job.var c.args.job.n) in
    entered-sound c.ready_reads.new.replica c.finish.new.self e c.self.inside.parked.items c.split_met.new.parked.items c.self.inside.opened (ready-sound c.self.inside.replica c.ready_reads.new.replica c.self.inside.parked.items c.self.inside.opened c.ready_reads.ensures c.self.invariant) bound.sound bound.frame bound.entries c.split_met.ensures.parked c.split_met.ensures.waits

pub returns-in_ok-finish-in-Ok-clause-ok : goal.returns-in_ok-finish-in-Ok-clause-ok
returns-in_ok-finish-in-Ok-clause-ok c =
    let e = entry c.args.by (model.Bind c.args.job.var c.args.job.n) in
    subst (λ (s : Core). core_of c.finish.new.self c.split_met.new.parked.items c.self.inside.opened c.self.inside.owed ≡ returned c.args.job.var (entered e s)) c.self.view_is
    (bound-is c.self.inside.replica c.finish.new.self c.args.by c.args.job.var c.args.job.n c.self.inside.parked.items c.split_met.new.parked.items c.self.inside.opened c.self.inside.owed (subst (λ (r : Replica). HasBound c.args.by c.args.job.var c.args.job.n r c.finish.new.self) c.ready_reads.ensures c.in_ok-finish-in-Ok.ensures.ok) c.split_met.ensures.parked)

pub returns-in_ok-finish-in-Ok-clause-released : goal.returns-in_ok-finish-in-Ok-clause-released
returns-in_ok-finish-in-Ok-clause-released c =
    let bound = subst (λ (r : Replica). HasBound c.args.by c.args.job.var c.args.job.n r c.finish.new.self) c.ready_reads.ensures c.in_ok-finish-in-Ok.ensures.ok in
    let e = entry c.args.by (model.Bind c.args.job.var c.args.job.n) in
    subst (λ (s : Core). c.of.result ≡ released e s) c.self.view_is
    (c.of.ensures ∙ released-is c.self.inside.replica c.finish.new.self e c.self.inside.parked.items c.split_met.new.released.items c.self.inside.opened c.self.inside.owed bound.frame bound.entries c.split_met.ensures.released)

pub returns-in_ok-finish-in-Ok-clause-ascending : goal.returns-in_ok-finish-in-Ok-clause-ascending
returns-in_ok-finish-in-Ok-clause-ascending c =
    let new = c.finish.new.self in
    passed-ascend (λ r. is_met (frame_of new) (entries_of new) r) (map read_of c.self.inside.parked.items) c.of.result c.self.invariant.order.ascend (c.of.ensures ∙ c.split_met.ensures.released)
