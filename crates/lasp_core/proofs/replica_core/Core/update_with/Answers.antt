use Rattle.std.proofs.Common.{◌∷◌, [], map, sym, ap, subst, ◌∙◌}
use Rattle.model_journal.specs.Entry as model
use Rattle.model_journal.specs.Entry.{entry}
use Rattle.model_journal.specs.Journal.{counts, val}
use Rattle.model_core.specs.Core.{Core, is_met}
use Rattle.model_core.specs.Known.{BringsNothing}
use Rattle.lasp_state.specs.State.{op_of}
use Rattle.lasp_core.specs.Reads.{read_of}
use Rattle.lasp_core.specs.Core.{core_of}
use Rattle.lasp_replica.specs.declared.replica.Replica.{Replica}
use Rattle.lasp_replica.specs.Replica.{frame_of, entries_of}
use Rattle.lasp_core.proofs.OrderLaws.{passed-ascend}
use Rattle.lasp_core.proofs.CoresLaws.{ready-sound, idle-here, all-watched, all-waiting, entries-within, entered-sound, entries-many}
use Rattle.lasp_core.proofs.replica_core.Core.update_with.Goals as goal

pub update_with-requires-clause-known : goal.update_with-requires-clause-known
update_with-requires-clause-known c is_known =
    let old = c.self.inside in
    let r = c.ready_reads.new.replica in
    idle-here r (ready-sound old.replica r old.parked.items old.opened c.ready_reads.ensures c.self.invariant).replica c.args.var (op_of c.args.op.now)
    (subst (λ (k : Core). BringsNothing (val k.frame k.entries c.args.var) (counts k.frame k.entries) k.frame.replica (op_of c.args.op.now)) (sym c.self.view_is ∙ ap (λ (q : Replica). core_of q old.parked.items old.opened old.owed) (sym c.ready_reads.ensures)) (c.requires.known is_known))

pub split_met-requires-clause-within : goal.split_met-requires-clause-within
split_met-requires-clause-within c =
    let goes = c.in_ok-update_with.ensures.ok in
    let e = entry c.args.by (model.Update c.args.var (op_of c.args.op.now)) in
    entries-within c.ready_reads.new.replica c.update_with.new.self (e ∷ []) c.len-n.result goes.entries (c.len-n.ensures ∙ entries-many c.ready_reads.new.replica)

pub split_met-requires-clause-reads : goal.split_met-requires-clause-reads
split_met-requires-clause-reads c =
    let goes = c.in_ok-update_with.ensures.ok in
    let e = entry c.args.by (model.Update c.args.var (op_of c.args.op.now)) in
    all-watched c.ready_reads.new.replica c.update_with.new.self c.self.inside.parked.items c.self.inside.opened (e ∷ []) c.len-n.result (ready-sound c.self.inside.replica c.ready_reads.new.replica c.self.inside.parked.items c.self.inside.opened c.ready_reads.ensures c.self.invariant) goes.sound goes.frame goes.entries (c.len-n.ensures ∙ entries-many c.ready_reads.new.replica)

pub split_met-requires-clause-waits : goal.split_met-requires-clause-waits
split_met-requires-clause-waits c =
    let goes = c.in_ok-update_with.ensures.ok in
    let e = entry c.args.by (model.Update c.args.var (op_of c.args.op.now)) in
    all-waiting c.ready_reads.new.replica c.update_with.new.self c.self.inside.parked.items c.self.inside.opened (e ∷ []) c.len-n.result (ready-sound c.self.inside.replica c.ready_reads.new.replica c.self.inside.parked.items c.self.inside.opened c.ready_reads.ensures c.self.invariant) goes.sound goes.frame goes.entries (c.len-n.ensures ∙ entries-many c.ready_reads.new.replica)

pub invariant_of-self-2 : goal.invariant_of-self-2
invariant_of-self-2 c =
    let goes = c.in_ok-update_with.ensures.ok in
    let e = entry c.args.by (model.Update c.args.var (op_of c.args.op.now)) in
    entered-sound c.ready_reads.new.replica c.update_with.new.self e c.self.inside.parked.items c.split_met.new.parked.items c.self.inside.opened (ready-sound c.self.inside.replica c.ready_reads.new.replica c.self.inside.parked.items c.self.inside.opened c.ready_reads.ensures c.self.invariant) goes.sound goes.frame goes.entries c.split_met.ensures.parked c.split_met.ensures.waits

pub returns-clause-ascending : goal.returns-clause-ascending
returns-clause-ascending c =
    let new = c.update_with.new.self in
    passed-ascend (λ r. is_met (frame_of new) (entries_of new) r) (map read_of c.self.inside.parked.items) c.of.result c.self.invariant.order.ascend (c.of.ensures ∙ c.split_met.ensures.released)
