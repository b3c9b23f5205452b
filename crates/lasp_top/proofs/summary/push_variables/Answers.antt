use Rattle.std.proofs.Common.{rules, ◌≡◌, ◌++◌, ◌∷◌, [], ℕ, List, ap, subst, ◌∙◌}
use Rattle.std.specs.Prelude.{Some, slice_get, string_bytes}
use Rattle.model_states.specs.Content.{Content}
use Rattle.model_graph.specs.Evaluation.{content_at}
use Rattle.model_graph.specs.Graph.{Decl, kind_at}
use Rattle.model_journal.specs.Journal.{graph, vals}
use Rattle.model_program.specs.Summary.{number_of}
use Rattle.model_world.specs.Line.{line}
use Rattle.lasp_graph.specs.Decl.{decl_of}
use Rattle.lasp_top.specs.Summary.{state_number, core_lines}
use Rattle.lasp_top.proofs.SummaryLaws.{state-numbered, numbers-next}
use Rattle.lasp_top.proofs.summary.push_variables.Goals as goal

pub loop-x-preserved : goal.loop-x-preserved
loop-x-preserved c =
    let core = c.args.core.now in
    let g : List Decl = graph core.frame core.entries in
    let x : ℕ = c.loop-x.x in
    let d : Decl = decl_of c.at.result.now in
    let same : c.deref-in-loop-x.result.now ≡ g = c.deref-in-loop-x.ensures ∙ c.graph-graph.ensures in
    let at : slice_get g x ≡ Some d = subst (λ (ds : List Decl). slice_get ds x ≡ Some d) same c.at.ensures.decl in
    let shown : List Content = vals core.frame core.entries in
    let drawn : state_number c.deref-in-loop-x-2.result.now ≡ number_of d.kind (content_at shown x) =
    ap state_number c.deref-in-loop-x-2.ensures ∙ state-numbered core x _ (search rules) c.state.ensures
    ∙ ap (λ (k : _). number_of k (content_at shown x)) (subst (λ (ds : List Decl). kind_at ds x ≡ d.kind) same c.at.ensures.kind) in
    let more : string_bytes c.push_variable.new.text ≡ string_bytes c.loop-x.text ++ line (d.name ∷ state_number c.deref-in-loop-x-2.result.now ∷ []) =
    c.in_ok-push_variable.ensures ∙ ap (λ (name : List ℕ). string_bytes c.loop-x.text ++ line (name ∷ state_number c.deref-in-loop-x-2.result.now ∷ [])) c.as_str.ensures.exact in
    record {
      within = search rules;
      text = numbers-next g x d shown (state_number c.deref-in-loop-x-2.result.now) (string_bytes c.loop-x.text) (string_bytes c.push_variable.new.text) (string_bytes c.args.text.now ++ core_lines core) at drawn more c.loop-x.invariant.text;
    }
