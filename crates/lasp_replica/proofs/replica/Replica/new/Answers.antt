use Rattle.std.proofs.Common.{◌∙◌, refl, List, length, map, ap, subst}
use Rattle.std.specs.Arc.{arc_value}
use Rattle.model_graph.specs.Graph.{Decl}
use Rattle.model_readings.specs.Lawful as readings
use Rattle.lasp_replica.specs.History.{no_history}
use Rattle.lasp_replica.specs.Parts.{fresh_state, fresh_base}
use Rattle.lasp_replica.specs.Entries.{entry_of}
use Rattle.lasp_replica.proofs.LeastLaws.{map-same, fresh-replica}
use Rattle.lasp_replica.proofs.replica.Replica.new.Goals as goal

pub returns-clause-sound : goal.returns-clause-sound
returns-clause-sound c =
    let g : List Decl = arc_value c.args.graph in
    let lawful : readings.IsGraph g = subst (λ (ds : List Decl). readings.IsGraph ds) c.deref.ensures c.recall.ensures in
    fresh-replica g c.args.me c.args.nodes _ lawful c.requires.member c.requires.few
    (record {
      graph = refl;
      opening = c.len-opening.ensures.count ∙ ap (λ (ds : List Decl). length ds) c.deref-2.ensures;
      me_is = refl;
      counts = c.in_ok-counts.ensures;
      states = c.in_ok-states.ensures ∙ ap (map (fresh_state c.args.nodes)) c.deref-3.ensures;
      histories = c.in_ok-histories.ensures ∙ ap (λ (ds : List Decl). map (λ d. no_history) ds) c.deref-4.ensures;
      bases = c.in_ok-processes.ensures.bases ∙ ap (λ (ds : List Decl). map (λ d. fresh_base d.kind) ds) c.deref-5.ensures;
      busy = c.in_ok-processes.ensures.busy ∙ ap (λ (ds : List Decl). map (λ d. 0) ds) c.deref-5.ensures;
      entries = ap (map entry_of) c.new.ensures.items;
    })

pub returns-clause-busy : goal.returns-clause-busy
returns-clause-busy c =
    c.in_ok-processes.ensures.busy ∙ ap (λ (ds : List Decl). map (λ d. 0) ds) c.deref-5.ensures ∙ map-same (arc_value c.args.graph) 0
