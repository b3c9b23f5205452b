use Rattle.std.proofs.Common.{◌≡◌, ◌<◌, ◌∷◌, [], length, map, Err, ap, subst, ◌∙◌}
use Rattle.model_states.specs.Content.{Content, size_of, row_limit}
use Rattle.model_graph.specs.Graph.{kind_at}
use Rattle.model_graph.specs.Evaluation.{equation}
use Rattle.model_journal.specs.Entry as model
use Rattle.model_journal.specs.Entry.{entry}
use Rattle.model_journal.specs.Journal.{graph, vals}
use Rattle.model_core.specs.Core.{Core, is_met}
use Rattle.lasp_graph.specs.declared.inputs.EvalRefused.TheVariants.{TooManyRows}
use Rattle.lasp_replica.specs.Replica.{frame_of, entries_of}
use Rattle.lasp_replica.specs.declared.replica.Replica.{Replica}
use Rattle.lasp_core.specs.Core.{core_of}
use Rattle.lasp_core.specs.Reads.{read_of}
use Rattle.lasp_core.proofs.OrderLaws.{passed-ascend}
use Rattle.lasp_core.proofs.CoresLaws.{ready-sound, all-watched, all-waiting, entries-within, entered-sound, entries-many, equation-here, passed-refusal}
use Rattle.lasp_core.proofs.replica_core.Core.settle_var.Goals as goal

pub split_met-requires-clause-within : goal.split_met-requires-clause-within
split_met-requires-clause-within g c =
    let goes = c.in_ok-settle_var.ensures.ok in
    let r = c.ready_reads.new.replica in
    let e = entry c.args.by (model.Bind c.args.var (length (entries_of r))) in
    entries-within r c.settle_var.new.self (e ∷ []) c.len-n.result goes.entries (c.len-n.ensures ∙ entries-many r)

pub split_met-requires-clause-reads : goal.split_met-requires-clause-reads
split_met-requires-clause-reads g c =
    let goes = c.in_ok-settle_var.ensures.ok in
    let r = c.ready_reads.new.replica in
    let e = entry c.args.by (model.Bind c.args.var (length (entries_of r))) in
    all-watched r c.settle_var.new.self c.self.inside.parked.items c.self.inside.opened (e ∷ []) c.len-n.result (ready-sound c.self.inside.replica r c.self.inside.parked.items c.self.inside.opened c.ready_reads.ensures c.self.invariant) goes.sound goes.frame goes.entries (c.len-n.ensures ∙ entries-many r)

pub split_met-requires-clause-waits : goal.split_met-requires-clause-waits
split_met-requires-clause-waits g c =
    let goes = c.in_ok-settle_var.ensures.ok in
    let r = c.ready_reads.new.replica in
    let e = entry c.args.by (model.Bind c.args.var (length (entries_of r))) in
    all-waiting r c.settle_var.new.self c.self.inside.parked.items c.self.inside.opened (e ∷ []) c.len-n.result (ready-sound c.self.inside.replica r c.self.inside.parked.items c.self.inside.opened c.ready_reads.ensures c.self.invariant) goes.sound goes.frame goes.entries (c.len-n.ensures ∙ entries-many r)

pub invariant_of-self-2 : goal.invariant_of-self-2
invariant_of-self-2 g c =
    let goes = c.in_ok-settle_var.ensures.ok in
    let r = c.ready_reads.new.replica in
    let e = entry c.args.by (model.Bind c.args.var (length (entries_of r))) in
    entered-sound r c.settle_var.new.self e c.self.inside.parked.items c.split_met.new.parked.items c.self.inside.opened (ready-sound c.self.inside.replica r c.self.inside.parked.items c.self.inside.opened c.ready_reads.ensures c.self.invariant) goes.sound goes.frame goes.entries c.split_met.ensures.parked c.split_met.ensures.waits

pub returns-clause-ascending : goal.returns-clause-ascending
returns-clause-ascending g c =
    let new = c.settle_var.new.self in
    passed-ascend (λ r. is_met (frame_of new) (entries_of new) r) (map read_of c.self.inside.parked.items) c.of.result c.self.invariant.order.ascend (c.of.ensures ∙ c.split_met.ensures.released)

pub returns-in_err-settle_var-clause-large : goal.returns-in_err-settle_var-clause-large
returns-in_err-settle_var-clause-large g c e =
    let old = c.self.inside in
    let r = c.ready_reads.new.replica in
    let sound = ready-sound old.replica r old.parked.items old.opened c.ready_reads.ensures c.self.invariant in
    let core : core_of r old.parked.items old.opened old.owed ≡ c.args.self.now = ap (λ (q : Replica). core_of q old.parked.items old.opened old.owed) c.ready_reads.ensures ∙ c.self.view_is in
    subst (λ (s : Core). row_limit < size_of (equation (kind_at (graph s.frame s.entries) c.args.var) (vals s.frame s.entries))) core
    (subst (λ (t : Content). row_limit < size_of t) (equation-here r sound.replica c.args.var)
    (c.settle_var.ensures.large (c.in_err-settle_var.was ∙ ap Err (passed-refusal c.from_residual-in_err-settle_var.result c.in_err-settle_var.field-0.0 TooManyRows c.from_residual-in_err-settle_var.ensures.1 e))))
