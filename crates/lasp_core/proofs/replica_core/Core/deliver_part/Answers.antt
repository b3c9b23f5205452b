use Rattle.std.proofs.Common.{◌∷◌, [], map, ◌∙◌}
use Rattle.std.specs.Arc.{arc_value}
use Rattle.model_journal.specs.Entry as model
use Rattle.model_journal.specs.Entry.{entry}
use Rattle.model_core.specs.Core.{is_met}
use Rattle.lasp_core.specs.Reads.{read_of}
use Rattle.lasp_replica.specs.Replica.{frame_of, entries_of}
use Rattle.lasp_core.proofs.OrderLaws.{passed-ascend}
use Rattle.lasp_core.proofs.CoresLaws.{ready-sound, all-watched, all-waiting, entries-within, entered-sound, entries-many}
use Rattle.lasp_core.proofs.replica_core.Core.deliver_part.Goals as goal

pub split_met-requires-clause-within : goal.split_met-requires-clause-within
split_met-requires-clause-within c =
    let goes = c.in_ok-deliver_part.ensures.ok in
    let e = entry c.args.by (model.Deliver c.args.number (arc_value c.args.message.now)) in
    entries-within c.ready_reads.new.replica c.deliver_part.new.self (e ∷ []) c.len-n.result goes.entries (c.len-n.ensures ∙ entries-many c.ready_reads.new.replica)

pub split_met-requires-clause-reads : goal.split_met-requires-clause-reads
split_met-requires-clause-reads c =
    let goes = c.in_ok-deliver_part.ensures.ok in
    let e = entry c.args.by (model.Deliver c.args.number (arc_value c.args.message.now)) in
    all-watched c.ready_reads.new.replica c.deliver_part.new.self c.self.inside.parked.items c.self.inside.opened (e ∷ []) c.len-n.result (ready-sound c.self.inside.replica c.ready_reads.new.replica c.self.inside.parked.items c.self.inside.opened c.ready_reads.ensures c.self.invariant) goes.sound goes.frame goes.entries (c.len-n.ensures ∙ entries-many c.ready_reads.new.replica)

pub split_met-requires-clause-waits : goal.split_met-requires-clause-waits
split_met-requires-clause-waits c =
    let goes = c.in_ok-deliver_part.ensures.ok in
    let e = entry c.args.by (model.Deliver c.args.number (arc_value c.args.message.now)) in
    all-waiting c.ready_reads.new.replica c.deliver_part.new.self c.self.inside.parked.items c.self.inside.opened (e ∷ []) c.len-n.result (ready-sound c.self.inside.replica c.ready_reads.new.replica c.self.inside.parked.items c.self.inside.opened c.ready_reads.ensures c.self.invariant) goes.sound goes.frame goes.entries (c.len-n.ensures ∙ entries-many c.ready_reads.new.replica)

pub invariant_of-self-2 : goal.invariant_of-self-2
invariant_of-self-2 c =
    let goes = c.in_ok-deliver_part.ensures.ok in
    let e = entry c.args.by (model.Deliver c.args.number (arc_value c.args.message.now)) in
    entered-sound c.ready_reads.new.replica c.deliver_part.new.self e c.self.inside.parked.items c.split_met.new.parked.items c.self.inside.opened (ready-sound c.self.inside.replica c.ready_reads.new.replica c.self.inside.parked.items c.self.inside.opened c.ready_reads.ensures c.self.invariant) goes.sound goes.frame goes.entries c.split_met.ensures.parked c.split_met.ensures.waits

pub returns-clause-ascending : goal.returns-clause-ascending
returns-clause-ascending c =
    let new = c.deliver_part.new.self in
    passed-ascend (λ r. is_met (frame_of new) (entries_of new) r) (map read_of c.self.inside.parked.items) c.of.result c.self.invariant.order.ascend (c.of.ensures ∙ c.split_met.ensures.released)
