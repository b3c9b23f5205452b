use Rattle.std.proofs.Common.{ℕ, ◌≡◌, ◌<◌, IsSome, None, Some, List, [], ◌∷◌, ◌++◌, length, map, slice_set, slice_index_or, refl, sym, ap, subst, ◌∙◌}
use Rattle.std.proofs.lemmas.List.{map-append}
use Rattle.std.specs.Arc.{arc_value}
use Rattle.model_graph.specs.Lawful.{IsDerived}
use Rattle.model_graph.proofs.PlaceLaws.{set-length}
use Rattle.lasp_replica.specs.History.{AreBelow}
use Rattle.lasp_graph.specs.States.{Held, held_of}
use Rattle.lasp_replica.specs.declared.replica.Replica.{Replica}
use Rattle.lasp_replica.specs.Entries.{entry_of}
use Rattle.lasp_replica.specs.Replica.{base_on, seen_process, kept_at}
use Rattle.lasp_replica.specs.Update.{recorded}
use Rattle.lasp_replica.proofs.FinishLaws.{IsBound, job-derived, state-there, process-some, growths-below, bind_entry, bind-replica}
use Rattle.lasp_replica.proofs.replica.Replica.bind.Goals as goal

pub replace-requires : goal.replace-requires
replace-requires c =
    let r = c.args.self.now in
    subst (λ (n : ℕ). n < length r.states) (sym (c.from.ensures ∙ c.into_parts-parts.ensures.var.0)) (state-there r c.requires.replica c.args.job.var (job-derived r c.args.job c.requires.replica c.requires.job))

pub gather_at-requires : goal.gather_at-requires
gather_at-requires c =
    let r = c.args.self.now in
    let long : length c.replace.new.self ≡ length r.states = ap (λ (hs : List Held). length hs) c.replace.ensures ∙ set-length r.states c.from.result (held_of (arc_value c.args.ready.state)) in
    subst (λ (n : ℕ). n < length c.replace.new.self) (sym (c.from-2.ensures ∙ c.into_parts-parts.ensures.var.0))
    (subst (λ (n : ℕ). c.args.job.var < n) (sym long) (state-there r c.requires.replica c.args.job.var (job-derived r c.args.job c.requires.replica c.requires.job)))

pub record_growth-requires-clause-after : goal.record_growth-requires-clause-after
record_growth-requires-clause-after c =
    let r = c.args.self.now in
    let low = growths-below r c.requires.replica c.args.job.var (job-derived r c.args.job c.requires.replica c.requires.job) in
    subst (λ (v : ℕ). AreBelow c.len-entry.result (kept_at r.histories.items v).history.growths) (sym c.into_parts-parts.ensures.var.0)
    (subst (λ (n : ℕ). AreBelow n (kept_at r.histories.items c.args.job.var).history.growths) (sym (c.len-entry.ensures ∙ r.journal.ok.0)) low)

pub rebase-requires-clause-derived : goal.rebase-requires-clause-derived
rebase-requires-clause-derived c =
    let r = c.args.self.now in
    subst (λ (v : ℕ). IsSome (slice_index_or r.processes.items v None)) (sym c.into_parts-parts.ensures.var.0) (process-some r c.requires.replica c.args.job.var (job-derived r c.args.job c.requires.replica c.requires.job))

pub stop-requires-clause-replica : goal.stop-requires-clause-replica
stop-requires-clause-replica c =
    let r = c.args.self.now in
    let v = c.into_parts-parts.ensures.var.0 in
    let n = c.into_parts-parts.ensures.var.1 in
    let shared = c.requires.base in
    let items = r.journal.items in
    let new : Replica = record {
      graph = r.graph;
      opening = r.opening;
      me = r.me;
      counts = r.counts;
      states = c.gather_at.new.self;
      histories = c.record_growth.new.histories;
      processes = c.rebase.new.processes;
      journal = c.write_down.new.journal;
    } in
    let base : base_on c.into_parts-parts.result.n (Some c.args.ready.base) ≡ base_on c.args.job.n (Some c.args.job.inputs) = λ i. record { entries = n i; inputs = Some (record { first = shared.first i; second = shared.second i; two = shared.two i }) } in
    let bound : IsBound c.args.by c.args.job.var c.args.job.n (held_of (arc_value c.args.ready.state)) (base_on c.args.job.n (Some c.args.job.inputs)) c.args.ready.grows r new = record {
      same = record { graph = refl; opening = refl; me = refl; counts = refl };
      states = c.gather_at.ensures ∙ c.replace.ensures ∙ ap (λ (i : ℕ). slice_set r.states i (held_of (arc_value c.args.ready.state))) (c.from.ensures ∙ v);
      grew = λ more. c.record_growth.ensures ∙ (λ i. recorded (more i) (v i) ((c.len-entry.ensures ∙ r.journal.ok.0) i) r.histories.items);
      stood = λ none. c.record_growth.ensures ∙ (λ i. recorded (none i) (v i) ((c.len-entry.ensures ∙ r.journal.ok.0) i) r.histories.items);
      bases = c.rebase.ensures.bases ∙ (λ i. slice_set (map seen_process r.processes.items) (v i) (Some (base i)));
      entries = ap (map entry_of) c.write_down.ensures ∙ map-append entry_of items _ ∙ (λ i. map entry_of items ++ bind_entry c.args.by (v i) (n i) ∷ []);
    } in
    bind-replica r new c.args.by c.args.job (arc_value c.args.ready.state) c.args.ready.grows c.requires.replica c.requires.job c.requires.result c.args.job.asked c.requires.later c.requires.room bound _ c.write_down.ensures tt

pub stop-requires-clause-derived : goal.stop-requires-clause-derived
stop-requires-clause-derived c =
    let r = c.args.self.now in
    subst (IsDerived (arc_value r.graph)) (sym c.into_parts-parts.ensures.var.0) (job-derived r c.args.job c.requires.replica c.requires.job)
