use Rattle.std.proofs.Common.{◌∙◌, sym, ap, List, ◌∷◌, [], ◌++◌, take, arith}
use Rattle.std.proofs.lemmas.List.{take_more}
use Rattle.std.proofs.lemmas.Option.{get_or_from_slice_get}
use Rattle.std.specs.Arc.{arc_value}
use Rattle.lasp_graph.specs.States.{Held, held_of}
use Rattle.lasp_graph.proofs.states.States.try_clone.Goals as goal

pub loop-i-preserved : goal.loop-i-preserved
loop-i-preserved c =
    let copied : Held = held_of (arc_value c.in_ok-try_clone.field-0) in
    let there = get_or_from_slice_get c.args.self.now c.loop-i.i (held_of (arc_value c.at.result.now)) copied c.at.ensures ∙ sym (ap held_of c.in_ok-try_clone.ensures) in
    c.in_ok-push.ensures.ok
    ∙ ap (λ (states : List Held). states ++ copied ∷ []) c.loop-i.invariant
    ∙ ap (λ (h : Held). take c.loop-i.i c.args.self.now ++ h ∷ []) (sym there)
    ∙ sym (take_more c.args.self.now c.loop-i.i copied (omega (arith, c.loop-i-test.true, c.len-i-end.ensures)))
