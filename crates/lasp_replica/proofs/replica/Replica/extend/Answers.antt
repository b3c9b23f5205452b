use Rattle.std.proofs.Common.{rules, refl, ap, ◌∙◌, arith, ◌≡◌, ◌<◌, ◌++◌, ◌∷◌, [], List, ℕ, length, vec_len, vec_capacity}
use Rattle.std.specs.Arc.{arc_value}
use Rattle.model_graph.specs.Graph.{Decl, decl_at}
use Rattle.model_journal.specs.Entry as model
use Rattle.model_journal.specs.Entry.{entry}
use Rattle.lasp_replica.specs.History.{no_history}
use Rattle.lasp_replica.specs.Parts.{fresh_state, fresh_base}
use Rattle.lasp_graph.specs.Decl.{decl_of}
use Rattle.lasp_graph.specs.States.{Held, held_of}
use Rattle.lasp_replica.specs.Entries.{entry_of}
use Rattle.lasp_replica.specs.Replica.{told, jobs_of, seen_process}
use Rattle.lasp_replica.proofs.ExtendLaws.{pushed, written, last-decl, replica-grows}
use Rattle.lasp_replica.proofs.replica.Replica.extend.Goals as goal

pub returns-clause-ok : goal.returns-clause-ok
returns-clause-ok c =
    let old = c.args.self.now in
    let g : List Decl = arc_value old.graph in
    let d : Decl = decl_of c.args.decl.now in
    let many : ℕ = length old.counts in
    let graph : arc_value c.in_ok-graph.graph ≡ g ++ d ∷ [] = c.in_ok-graph.ensures.ok ∙ c.in_ok-with.ensures ∙ ap (λ (ds : List Decl). ds ++ d ∷ []) c.deref.ensures in
    let here : c.len.result ≡ length g = c.len.ensures.count ∙ ap (λ (ds : List Decl). length ds) c.deref-3.ensures in
    let last : decl_at c.deref-2.result.now c.len.result ≡ d = last-decl g c.deref-2.result.now d c.len.result (c.deref-2.ensures ∙ graph) here in
    let fresh : held_of (arc_value c.in_ok-state.state) ≡ fresh_state many d =
    c.in_ok-state.ensures ∙ ap (λ (n : ℕ). fresh_state n (decl_at c.deref-2.result.now c.len.result)) (search rules) ∙ ap (fresh_state many) last in
    let histories_fit : vec_len c.reserve.new.self < vec_capacity c.reserve.new.self = omega (arith, c.in_ok-reserve.ensures.ok, c.in_ok-reserve.ensures.len) in
    let processes_fit : vec_len c.reserve-2.new.self < vec_capacity c.reserve-2.new.self = omega (arith, c.in_ok-reserve-2.ensures.ok, c.in_ok-reserve-2.ensures.len) in
    let journal_fits : vec_len c.reserve-3.new.self < vec_capacity c.reserve-3.new.self = omega (arith, c.in_ok-reserve-3.ensures.ok, c.in_ok-reserve-3.ensures.len) in
    replica-grows old _ (entry c.args.by (model.Extend d)) d c.requires.replica refl c.requires.next c.requires.room
    (record {
      graph = graph;
      opening = refl;
      me = refl;
      counts = refl;
      states = c.in_ok-push.ensures.ok ∙ ap (λ (h : Held). old.states ++ h ∷ []) fresh;
      histories = pushed told c.push-2.result c.push-2.new.self.items c.reserve.new.self.items old.histories.items _ no_history
          (c.push-2.ensures.succeeds histories_fit) c.push-2.ensures.items c.in_ok-reserve.ensures.items c.new-2.ensures.history;
      bases = pushed seen_process c.push-6.result c.push-6.new.self.items c.reserve-2.new.self.items old.processes.items _ (fresh_base d.kind)
          (c.push-6.ensures.succeeds processes_fit) c.push-6.ensures.items c.in_ok-reserve-2.ensures.items c.fresh_process-process.ensures.base;
      busy = pushed jobs_of c.push-6.result c.push-6.new.self.items c.reserve-2.new.self.items old.processes.items _ 0
          (c.push-6.ensures.succeeds processes_fit) c.push-6.ensures.items c.in_ok-reserve-2.ensures.items c.fresh_process-process.ensures.busy;
      entries = pushed entry_of c.push-7.result c.push-7.new.self.items c.reserve-3.new.self.items old.journal.items _ (entry c.args.by (model.Extend d))
          (c.push-7.ensures.succeeds journal_fits) c.push-7.ensures.items c.in_ok-reserve-3.ensures.items (ap (λ (a : Decl). entry c.args.by (model.Extend a)) c.in_ok-own.ensures);
    })
    _ (written c.push-7.result c.push-7.new.self.items c.reserve-3.new.self.items old.journal.items _ (c.push-7.ensures.succeeds journal_fits) c.push-7.ensures.items c.in_ok-reserve-3.ensures.items) tt
