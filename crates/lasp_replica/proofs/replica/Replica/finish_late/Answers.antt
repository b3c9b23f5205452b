use Rattle.std.proofs.Common.{◌≡◌, List, [], ◌∷◌, ◌++◌, map, refl, sym, ap, subst, ◌∙◌}
use Rattle.std.proofs.lemmas.List.{map-append}
use Rattle.std.specs.Arc.{arc_value}
use Rattle.model_graph.specs.Lawful.{IsDerived}
use Rattle.lasp_replica.specs.declared.entry.Act.TheVariants.{Bind}
use Rattle.lasp_replica.specs.declared.entry.Entry.{Entry}
use Rattle.lasp_replica.specs.declared.replica.Replica.{Replica}
use Rattle.lasp_replica.specs.Entries.{entry_of}
use Rattle.lasp_replica.proofs.FinishLaws.{job-derived, bind_entry, late-replica}
use Rattle.lasp_replica.proofs.replica.Replica.finish_late.Goals as goal

pub stop-requires-clause-replica : goal.stop-requires-clause-replica
stop-requires-clause-replica c =
    let r = c.args.self.now in
    let v = c.into_parts-parts.ensures.var.0 in
    let n = c.into_parts-parts.ensures.var.1 in
    let items = r.journal.items in
    let entry : Entry = record { by = c.args.by; what = Bind c.into_parts-parts.result.var c.into_parts-parts.result.n } in
    let new : Replica = record {
      graph = r.graph;
      opening = r.opening;
      me = r.me;
      counts = r.counts;
      states = r.states;
      histories = r.histories;
      processes = r.processes;
      journal = c.write_down.new.journal;
    } in
    let written : c.write_down.new.journal.items ≡ items ++ entry ∷ [] = c.write_down.ensures ∙ ap (λ (es : List Entry). es ++ entry ∷ []) c.reserve.ensures.items in
    late-replica r new c.args.by c.args.job c.requires.replica c.requires.job c.requires.small c.requires.late (record { graph = refl; opening = refl; me = refl; counts = refl })
    (ap (map entry_of) written ∙ map-append entry_of items (entry ∷ []) ∙ (λ i. map entry_of items ++ bind_entry c.args.by (v i) (n i) ∷ [])) refl entry written tt

pub stop-requires-clause-derived : goal.stop-requires-clause-derived
stop-requires-clause-derived c =
    let r = c.args.self.now in
    subst (IsDerived (arc_value r.graph)) (sym c.into_parts-parts.ensures.var.0) (job-derived r c.args.job c.requires.replica c.requires.job)
