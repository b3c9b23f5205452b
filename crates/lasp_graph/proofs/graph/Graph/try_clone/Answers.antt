use Rattle.std.proofs.Common.{◌∙◌, sym, ap, List, ◌∷◌, [], ◌++◌, take, arith}
use Rattle.std.proofs.lemmas.List.{take_more}
use Rattle.std.proofs.lemmas.Option.{get_or_from_slice_get}
use Rattle.model_graph.specs.Graph.{Decl}
use Rattle.model_readings.specs.Lawful.{IsNext}
use Rattle.lasp_graph.specs.Decl.{decl_of}
use Rattle.lasp_graph.proofs.graph.Graph.try_clone.Goals as goal

pub push-requires-clause-next : goal.push-requires-clause-next
push-requires-clause-next c =
    let next : IsNext (take c.loop-var.var c.args.self.now) (decl_of c.at.result.now) = c.len-var-end.ensures.graph.each c.loop-var.var (decl_of c.at.result.now) c.at.ensures.decl in
    rw (c.loop-var.invariant, c.in_ok-try_clone.ensures) next

pub loop-var-preserved : goal.loop-var-preserved
loop-var-preserved c =
    let copied : Decl = decl_of c.in_ok-try_clone.field-0 in
    let there = get_or_from_slice_get c.args.self.now c.loop-var.var (decl_of c.at.result.now) copied c.at.ensures.decl ∙ sym c.in_ok-try_clone.ensures in
    c.in_ok-push.ensures.ok
    ∙ ap (λ (g : List Decl). g ++ copied ∷ []) c.loop-var.invariant
    ∙ ap (λ (d : Decl). take c.loop-var.var c.args.self.now ++ d ∷ []) (sym there)
    ∙ sym (take_more c.args.self.now c.loop-var.var copied (omega (arith, c.loop-var-test.true, c.len-var-end.ensures.count)))
