use Rattle.std.proofs.Common.{ℕ, ◌≡◌, List, length, sym, ap, subst, ◌∙◌, arith}
use Rattle.std.specs.Arc.{arc_value}
use Rattle.model_core.specs.Core.{Core}
use Rattle.model_graph.specs.Graph.{Decl}
use Rattle.model_live.specs.Lived.{live_text}
use Rattle.lasp_live.specs.Texts.{AreTellable, stories_of}
use Rattle.lasp_live.specs.declared.diary.Diary.{Diary}
use Rattle.lasp_live_run.specs.Run.{failed_of}
use Rattle.lasp_live_run.proofs.RunLaws.{failed-told}
use Rattle.lasp_live_run.proofs.run.live.Goals as goal

pub live_text-requires-clause-few : goal.live_text-requires-clause-few
live_text-requires-clause-few g c =
    let many : length c.as_slice.result.now ≡ length c.in_ok-cores.cores.items = ap (λ (l : List Core). length l) c.as_slice.ensures.value in
    omega (arith, many, c.in_ok-cores.ensures.many, c.requires.runnable.limits.nodes)

pub live_text-requires-clause-told : goal.live_text-requires-clause-told
live_text-requires-clause-told g c =
    let graph = arc_value c.args.graph.now in
    let nodes = (arc_value c.args.script.now).nodes in
    let cores = c.as_slice.result.now in
    let diaries = c.as_slice-2.result.now in
    let many : length cores ≡ nodes = ap (λ (l : List Core). length l) c.as_slice.ensures.value ∙ c.in_ok-cores.ensures.many in
    subst (λ (h : List Decl). AreTellable h (length cores) cores diaries) (sym c.deref.ensures)
    (subst (λ (n : ℕ). AreTellable graph n cores diaries) (sym many)
    (subst (λ (l : List Diary). AreTellable graph nodes cores l) (sym c.as_slice-2.ensures.value)
    (subst (λ (l : List Core). AreTellable graph nodes l c.in_ok-cores.diaries.items) (sym c.as_slice.ensures.value) c.in_ok-cores.ensures.tellable)))

pub returns : goal.returns
returns g c =
    let nodes = (arc_value c.args.script.now).nodes in
    let cores = c.in_ok-cores.cores.items in
    let diaries = c.in_ok-cores.diaries.items in
    let many : length c.as_slice.result.now ≡ nodes = ap (λ (l : List Core). length l) c.as_slice.ensures.value ∙ c.in_ok-cores.ensures.many in
    record {
      stories = stories_of cores diaries;
      lawful = c.in_ok-cores.ensures.stories;
      fails = failed-told cores diaries c.in_ok-cores.ensures.tellable.many ∙ sym (c.first_failed.ensures ∙ ap failed_of c.as_slice-3.ensures.value);
      text = c.in_ok-text.ensures ∙ (λ i. live_text (c.deref.ensures i) (many i) (stories_of (c.as_slice.ensures.value i) (c.as_slice-2.ensures.value i)));
    }
