use Rattle.std.proofs.Common.{◌≡◌, ◌<◌, IsTrue, sym, ap, subst, ◌∙◌, arith}
use Rattle.std.specs.Prelude.{◌↔◌}
use Rattle.std.specs.Arc.{arc_value}
use Rattle.std.proofs.lemmas.Bool.{lt-ltb}
use Rattle.model_states.specs.Content.{size_of, IsOrdered, IsContentAtMost, is_content_at_most}
use Rattle.model_states.specs.Threshold.{Threshold, Above, meets}
use Rattle.model_core.specs.Known.{HasLeast}
use Rattle.lasp_state.specs.declared.state.State.{State}
use Rattle.lasp_state.specs.State.{content_of, shape_of}
use Rattle.lasp_state.specs.Threshold.{threshold_of}
use Rattle.lasp_core.proofs.LookLaws.{above-larger, above-unless}
use Rattle.lasp_core.proofs.look.is_met_by.Goals as goal

pub returns-then-size : goal.returns-then-size
returns-then-size c =
    let s = content_of c.args.s.now in
    let t = content_of (arc_value c.in-Above.bound) in
    let is : threshold_of c.args.threshold.now ≡ Above (shape_of (arc_value c.in-Above.bound)) t = ap threshold_of c.in-Above.is in
    let least : IsTrue (is_content_at_most t s) = subst (λ (w : Threshold). HasLeast w s) is (c.requires.known c.if-not-is_known.false) in
    let ordered : IsOrdered t = subst (λ (u : State). IsOrdered (content_of u)) c.deref.ensures c.recall.ensures.ordered in
    let less : size_of t < size_of s = omega (arith, c.if-size.true, c.size.ensures, c.size-in-Above.ensures, ap (λ (u : State). size_of (content_of u)) c.deref-in-Above.ensures) in
    lt-ltb c.size-in-Above.result c.size.result c.if-size.true ∙ above-larger s t c.recall-in-Above.ensures.ordered ordered least less ∙ ap (λ (w : Threshold). meets w s) (sym is)

pub returns-else-size : goal.returns-else-size
returns-else-size c =
    let s = content_of c.args.s.now in
    let t = content_of (arc_value c.in-Above.bound) in
    let is : threshold_of c.args.threshold.now ≡ Above (shape_of (arc_value c.in-Above.bound)) t = ap threshold_of c.in-Above.is in
    let least : IsTrue (is_content_at_most t s) = subst (λ (w : Threshold). HasLeast w s) is (c.requires.known c.if-not-is_known.false) in
    let order : IsTrue c.le.result ↔ IsContentAtMost s t = subst (λ (u : State). IsTrue c.le.result ↔ IsContentAtMost s (content_of u)) c.deref-else-size.ensures c.le.ensures in
    above-unless s t c.le.result least order ∙ ap (λ (w : Threshold). meets w s) (sym is)
