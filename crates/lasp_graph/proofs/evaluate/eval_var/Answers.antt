use Rattle.std.proofs.Common.{◌≡◌, ◌∙◌, sym, ap, subst, ◌≤◌, Some}
use Rattle.std.specs.Arc.{arc_value}
use Rattle.model_states.specs.Content.{Content, size_of, row_limit}
use Rattle.model_graph.specs.Graph.{kind_at}
use Rattle.model_graph.specs.Width.{HasWidth}
use Rattle.lasp_state.specs.State.{content_of, shape_of}
use Rattle.lasp_graph.specs.Decl.{decl_of}
use Rattle.lasp_graph.specs.States.{held_of, held_at, contents_of}
use Rattle.lasp_graph.specs.Evaluated.{inputs_of, process, Becomes, seen}
use Rattle.lasp_graph.proofs.Evaluation.{inputs_before, earlier-shape, content-held, shape-held, evaluated-source, evaluated-process, small-at, source-shape, shape-as, kind-sound}
use Rattle.lasp_graph.proofs.evaluate.eval_var.Goals as goal

pub at-first-requires : goal.at-first-requires
at-first-requires g c =
    rw c.requires.done (inputs_before c.args.g.now c.args.var (decl_of c.at.result.now) (c.in-Some.x, c.in-Some.y) c.recall.ensures c.at.ensures.decl (sym c.inputs.ensures ∙ c.in-Some.is)).0.earlier

pub at-second-requires : goal.at-second-requires
at-second-requires g c =
    rw c.requires.done (inputs_before c.args.g.now c.args.var (decl_of c.at.result.now) (c.in-Some.x, c.in-Some.y) c.recall.ensures c.at.ensures.decl (sym c.inputs.ensures ∙ c.in-Some.is)).1.earlier

pub eval_derived-requires-clause-sets : goal.eval_derived-requires-clause-sets
eval_derived-requires-clause-sets g c =
    let earlier = inputs_before c.args.g.now c.args.var (decl_of c.at.result.now) (c.in-Some.x, c.in-Some.y) c.recall.ensures c.at.ensures.decl (sym c.inputs.ensures ∙ c.in-Some.is) in (
      ap shape_of c.deref.ensures
          ∙ sym (shape-held c.args.done.now c.in-Some.x (held_of (arc_value c.at-first.result.now)) c.at-first.ensures)
          ∙ earlier-shape c.args.g.now c.args.var c.in-Some.x c.args.sources.now c.args.done.now c.requires.declared c.requires.sets c.requires.shapes earlier.0,
      ap shape_of c.deref-in-Some.ensures
          ∙ sym (shape-held c.args.done.now c.in-Some.y (held_of (arc_value c.at-second.result.now)) c.at-second.ensures)
          ∙ earlier-shape c.args.g.now c.args.var c.in-Some.y c.args.sources.now c.args.done.now c.requires.declared c.requires.sets c.requires.shapes earlier.1,
    )

pub eval_derived-requires-clause-width : goal.eval_derived-requires-clause-width
eval_derived-requires-clause-width g c =
    let earlier = inputs_before c.args.g.now c.args.var (decl_of c.at.result.now) (c.in-Some.x, c.in-Some.y) c.recall.ensures c.at.ensures.decl (sym c.inputs.ensures ∙ c.in-Some.is) in
    subst (HasWidth 16) (content-held c.args.done.now c.in-Some.x (held_of (arc_value c.at-first.result.now)) c.at-first.ensures ∙ sym (ap content_of c.deref.ensures)) (c.requires.width c.in-Some.x earlier.0.earlier)

pub eval_derived-requires-clause-small : goal.eval_derived-requires-clause-small
eval_derived-requires-clause-small g c =
    subst (λ (s : Content). size_of s ≤ row_limit) (content-held c.args.done.now c.in-Some.x (held_of (arc_value c.at-first.result.now)) c.at-first.ensures ∙ sym (ap content_of c.deref.ensures))
    (small-at (contents_of c.args.done.now) c.in-Some.x c.requires.small)

pub returns-in-None-clause-content : goal.returns-in-None-clause-content
returns-in-None-clause-content g c =
    let none = ap inputs_of c.at.ensures.kind ∙ sym c.inputs.ensures ∙ c.in-None.is in
    rw (evaluated-source (kind_at c.args.g.now c.args.var) c.args.done.now c.args.sources.now c.args.var (held_of (arc_value c.at-in-None.result.now)) none c.requires.done c.at-in-None.ensures)
    c.share.ensures.content

pub returns-in-None-clause-shape : goal.returns-in-None-clause-shape
returns-in-None-clause-shape g c =
    let none = ap inputs_of c.at.ensures.kind ∙ sym c.inputs.ensures ∙ c.in-None.is in
    shape-as c.share.result (λ s. shape_of (arc_value s)) _ _
    (sym (source-shape (kind_at c.args.g.now c.args.var) (held_at c.args.sources.now c.args.var).shape none ∙ shape-held c.args.sources.now c.args.var (held_of (arc_value c.at-in-None.result.now)) c.at-in-None.ensures))
    c.share.ensures.shape

pub returns-in-Some-clause-content : goal.returns-in-Some-clause-content
returns-in-Some-clause-content g c =
    let some : inputs_of (kind_at c.args.g.now c.args.var) ≡ Some (c.in-Some.x, c.in-Some.y) = ap inputs_of c.at.ensures.kind ∙ sym c.inputs.ensures ∙ c.in-Some.is in
    let first : content_of (arc_value c.at-first.result.now) ≡ content_of c.deref.result.now = sym (ap content_of c.deref.ensures) in
    let second : content_of (arc_value c.at-second.result.now) ≡ content_of c.deref-in-Some.result.now = sym (ap content_of c.deref-in-Some.ensures) in
    subst (λ (s : Content). Becomes (seen (λ s. content_of (arc_value s)) c.eval_derived.result) s)
    (sym (
    evaluated-process (kind_at c.args.g.now c.args.var) c.args.done.now (contents_of c.args.sources.now) (c.in-Some.x, c.in-Some.y)
    (held_of (arc_value c.at-first.result.now)) (held_of (arc_value c.at-second.result.now)) some c.at-first.ensures c.at-second.ensures
    ∙ (λ n. process (c.at.ensures.kind n) (first n) (second n))
    ))
    c.eval_derived.ensures.content

pub eval_derived-requires-clause-sound : goal.eval_derived-requires-clause-sound
eval_derived-requires-clause-sound g c = kind-sound c.args.g.now c.args.var (decl_of c.at.result.now) c.recall.ensures c.at.ensures.decl
