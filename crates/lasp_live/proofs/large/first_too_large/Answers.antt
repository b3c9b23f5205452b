use Rattle.std.proofs.Common.{List, ◌≡◌, ◌∙◌, sym, ap, subst}
use Rattle.std.specs.Arc.{arc_value}
use Rattle.model_graph.specs.Evaluation.{eval}
use Rattle.model_graph.specs.Graph.{Decl}
use Rattle.model_journal.specs.Entry.{Frame}
use Rattle.model_journal.specs.Journal.{graph}
use Rattle.model_live.proofs.HearLaws.{graph-opens}
use Rattle.model_readings.specs.Lawful.{FitsAll}
use Rattle.lasp_graph.specs.Evaluated.{Evaluates, seen}
use Rattle.lasp_graph.specs.Library.{library_of}
use Rattle.lasp_graph.specs.States.{contents_of}
use Rattle.lasp_core.proofs.EvaluatedLaws.{long-of, narrow-of}
use Rattle.lasp_live.proofs.LargeLaws.{same-large, sets-of}
use Rattle.lasp_live.proofs.large.first_too_large.Goals as goal

pub eval_by_variable-requires-clause-all : goal.eval_by_variable-requires-clause-all
eval_by_variable-requires-clause-all g c =
    let all = c.in_ok-all.all in
    let opens : graph all.frame all.entries ≡ arc_value c.args.graph.now = graph-opens all.frame all.entries c.in_ok-all.ensures.undeclared ∙ ap (λ (X : Frame). X.opening) c.in_ok-all.ensures.frame in
    long-of all c.recall.ensures.core c.deref.result.now c.states.result.now (c.deref.ensures ∙ sym opens) c.states.ensures.contents

pub eval_by_variable-requires-clause-fits : goal.eval_by_variable-requires-clause-fits
eval_by_variable-requires-clause-fits g c = subst (FitsAll (library_of c.args.lib.now)) (sym c.deref.ensures) c.requires.fits

pub eval_by_variable-requires-clause-sets : goal.eval_by_variable-requires-clause-sets
eval_by_variable-requires-clause-sets g c =
    let all = c.in_ok-all.all in
    let opens : graph all.frame all.entries ≡ arc_value c.args.graph.now = graph-opens all.frame all.entries c.in_ok-all.ensures.undeclared ∙ ap (λ (X : Frame). X.opening) c.in_ok-all.ensures.frame in
    sets-of all.frame.nodes c.deref.result.now (graph all.frame all.entries) c.states.result.now (c.deref.ensures ∙ sym opens) c.states.ensures.kinds

pub eval_by_variable-requires-clause-narrow : goal.eval_by_variable-requires-clause-narrow
eval_by_variable-requires-clause-narrow g c =
    let all = c.in_ok-all.all in
    let opens : graph all.frame all.entries ≡ arc_value c.args.graph.now = graph-opens all.frame all.entries c.in_ok-all.ensures.undeclared ∙ ap (λ (X : Frame). X.opening) c.in_ok-all.ensures.frame in
    narrow-of all c.recall.ensures.core c.deref.result.now c.states.result.now (c.deref.ensures ∙ sym opens) c.states.ensures.contents c.sources_stay_within_the_format.ensures.narrow

pub returns : goal.returns
returns g c =
    let all = c.in_ok-all.all in
    let decls = arc_value c.args.graph.now in
    let exact = subst (λ (h : List Decl). Evaluates (seen contents_of c.eval_by_variable.result) (eval h (contents_of c.states.result.now))) c.deref.ensures c.eval_by_variable.ensures.exact in
    same-large decls c.args.script.now all (contents_of c.states.result.now) c.eval_by_variable.result c.large_of.result c.in_ok-all.ensures c.recall.ensures.core.legal c.states.ensures.contents exact c.large_of.ensures
