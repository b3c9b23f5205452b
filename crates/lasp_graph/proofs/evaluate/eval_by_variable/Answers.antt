use Rattle.std.proofs.Common.{◌≡◌, ◌∙◌, sym, ap, refl, suc, ◌+◌, ◌∷◌, ◌++◌, [], drop, drop-cons, arith, length-append}
use Rattle.std.specs.Arc.{arc_value}
use Rattle.model_graph.specs.Graph.{no_decl, decl_at, kind_at}
use Rattle.model_graph.specs.Evaluation.{eval, eval_from, evaluated}
use Rattle.lasp_graph.specs.States.{held_of, contents_of}
use Rattle.lasp_graph.proofs.Evaluation.{stopped-eval_from, small-push, contents-push, shapes-push, numbers-push, length-contents, done-width}
use Rattle.lasp_graph.proofs.evaluate.eval_by_variable.Goals as goal

pub eval_var-requires-clause-done : goal.eval_var-requires-clause-done
eval_var-requires-clause-done g c = c.loop-var.invariant.long

pub eval_var-requires-clause-shapes : goal.eval_var-requires-clause-shapes
eval_var-requires-clause-shapes g c = c.loop-var.invariant.shapes

pub eval_var-requires-clause-width : goal.eval_var-requires-clause-width
eval_var-requires-clause-width g c =
    done-width c.args.g.now (drop c.loop-var.var c.args.g.now) c.args.sources.now c.loop-var.states c.loop-var.var c.len-var-end.ensures.graph c.requires.narrow c.loop-var.invariant.whole c.loop-var.invariant.long (omega arith)

pub eval_var-requires-clause-small : goal.eval_var-requires-clause-small
eval_var-requires-clause-small g c = c.loop-var.invariant.small

pub returns-in-Err : goal.returns-in-Err
returns-in-Err g c =
    let decls = c.args.g.now in
    let sources = contents_of c.args.sources.now in
    let done = contents_of c.loop-var.states in
    let d = decl_at decls c.loop-var.var in
    let front : drop c.loop-var.var decls ≡ d ∷ drop (suc c.loop-var.var) decls = drop-cons decls c.loop-var.var no_decl (omega arith) in
    let whole : eval_from (d ∷ drop (suc c.loop-var.var) decls) done sources ≡ eval decls sources = ap (λ ds. eval_from ds done sources) (sym front) ∙ c.loop-var.invariant.whole in
    record {
      exact = rw (c.at.ensures, ← whole)
          (stopped-eval_from (kind_at decls c.loop-var.var) d (drop (suc c.loop-var.var) decls) done sources c.in-Err.refused c.loop-var.var refl (length-contents c.loop-var.states ∙ c.loop-var.invariant.long) c.loop-var.invariant.small c.in-Err.ensures.content);
      shapes = tt;
      numbers = tt;
    }

pub loop-var-preserved : goal.loop-var-preserved
loop-var-preserved g c =
    let decls = c.args.g.now in
    let sources = contents_of c.args.sources.now in
    let done = contents_of c.loop-var.states in
    let d = decl_at decls c.loop-var.var in
    let step : c.loop-var.var + 1 ≡ suc c.loop-var.var = omega arith in
    let front : drop c.loop-var.var decls ≡ d ∷ drop (suc c.loop-var.var) decls = drop-cons decls c.loop-var.var no_decl (omega arith) in
    let h = held_of (arc_value c.in-Ok.state) in
    let more : c.push.new.self ≡ c.loop-var.states ++ h ∷ [] = c.in_ok-push-in-Ok.ensures.ok in
    let contents : contents_of c.push.new.self ≡ done ++ h.content ∷ [] = ap contents_of more ∙ contents-push c.loop-var.states h in
    let is : evaluated d.kind done sources ≡ h.content = c.in-Ok.ensures.content.0 in
    record {
      whole =
          (λ n. eval_from (drop (step n) decls) (contents n) sources)
          ∙ ap (λ r. eval_from (drop (suc c.loop-var.var) decls) (done ++ r ∷ []) sources) (sym is)
          ∙ ap (λ ds. eval_from ds done sources) (sym front)
          ∙ c.loop-var.invariant.whole;
      long = rw (more, length-append, c.loop-var.invariant.long) refl;
      small = rw contents (small-push done h.content c.loop-var.invariant.small c.in-Ok.ensures.content.1);
      shapes = rw more (shapes-push c.loop-var.var decls c.args.sources.now c.loop-var.states h c.loop-var.invariant.long c.loop-var.invariant.shapes c.in-Ok.ensures.shape);
      numbers = rw more (numbers-push c.loop-var.var decls c.loop-var.states h c.loop-var.invariant.long c.loop-var.invariant.numbers c.in-Ok.ensures.number);
    }
