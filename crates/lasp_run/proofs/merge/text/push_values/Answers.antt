use Rattle.std.proofs.Common.{rules, ◌≡◌, ◌<◌, ◌++◌, ◌∷◌, [], List, ℕ, length, refl, sym, ap, subst, ◌∙◌}
use Rattle.std.specs.Prelude.{string_bytes}
use Rattle.model_states.specs.Content.{Content}
use Rattle.model_graph.specs.Graph.{Kind, Decl, kind_at}
use Rattle.model_graph.specs.Evaluation.{content_at}
use Rattle.model_program.specs.Merge.{value_lines}
use Rattle.model_world.specs.Line.{line, shown_content}
use Rattle.model_world.specs.World.{shown_at}
use Rattle.lasp_graph.specs.Decl.{decl_of}
use Rattle.lasp_state.specs.State.{shown_state}
use Rattle.lasp_drive.specs.Node.{NodeView}
use Rattle.lasp_drive.proofs.NodeLaws.{learns-itself, learns-then, learned-settled}
use Rattle.lasp_run.proofs.TextLaws.{values-next}
use Rattle.lasp_run.proofs.merge.text.push_values.Goals as goal

pub loop-x-init : goal.loop-x-init
loop-x-init g c = record { within = search rules; learned = learns-itself (g.N.Node.view c.args.node.now); text = refl }

pub state-requires-clause-settled : goal.state-requires-clause-settled
state-requires-clause-settled g c = learned-settled (g.N.Node.view c.args.node.now) (g.N.Node.view c.loop-x.node) c.loop-x.invariant.learned c.requires.settled

pub state-requires-clause-var : goal.state-requires-clause-var
state-requires-clause-var g c = subst (λ (ds : List Decl). c.loop-x.x < length ds) (sym (c.loop-x.invariant.learned.still.graph ∙ c.requires.graph)) (search rules)

pub loop-x-preserved : goal.loop-x-preserved
loop-x-preserved g c =
    let graph : List Decl = c.args.graph.now in
    let x : ℕ = c.loop-x.x in
    let old : NodeView = g.N.Node.view c.args.node.now in
    let now : NodeView = g.N.Node.view c.loop-x.node in
    let shown : List Content = shown_at graph old.peer in
    let d : Decl = decl_of c.at.result.now in
    let drawn : shown_state c.deref.result.now ≡ shown_content d.kind (content_at shown x) =
    ap shown_state c.deref.ensures ∙ c.in_ok-state.ensures.shows.text
    ∙ ap (λ (ds : List Decl). shown_content (kind_at ds x) (content_at now.shown x)) (c.loop-x.invariant.learned.still.graph ∙ c.requires.graph)
    ∙ ap (λ (ss : List Content). shown_content (kind_at graph x) (content_at ss x)) (c.loop-x.invariant.learned.settled c.requires.settled ∙ c.requires.settled ∙ ap (λ (ds : List Decl). shown_at ds old.peer) c.requires.graph)
    ∙ ap (λ (k : Kind). shown_content k (content_at shown x)) c.at.ensures.kind in
    let more : string_bytes c.push_value.new.text ≡ string_bytes c.loop-x.text ++ line (d.name ∷ shown_state c.deref.result.now ∷ []) =
    c.in_ok-push_value.ensures ∙ ap (λ (name : List ℕ). string_bytes c.loop-x.text ++ line (name ∷ shown_state c.deref.result.now ∷ [])) c.as_str.ensures.exact in
    record {
      within = search rules;
      learned = learns-then old now (g.N.Node.view c.state.new.self) c.loop-x.invariant.learned c.state.ensures.learns.learns;
      text = values-next graph x d shown (shown_state c.deref.result.now) (string_bytes c.loop-x.text) (string_bytes c.push_value.new.text) (string_bytes c.args.text.now ++ value_lines 0 graph shown) c.at.ensures.decl drawn more c.loop-x.invariant.text;
    }
