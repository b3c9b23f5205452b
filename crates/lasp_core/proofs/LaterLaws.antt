-- A job, and a result, of entries that go on.
use Rattle.std.proofs.Common.{◌≡◌, ℕ, ◌++◌, List, length, take, sym, ap, subst, ◌∙◌, arith}
use Rattle.std.proofs.lemmas.List.{length-append}
use Rattle.std.specs.Arc.{arc_value}
use Rattle.model_graph.specs.Graph.{Kind, kind_at}
use Rattle.model_graph.specs.Lawful.{IsDerived}
use Rattle.model_journal.specs.Entry.{Entry, Frame}
use Rattle.model_journal.specs.Journal.{graph, vals, val}
use Rattle.model_journal.proofs.PlaceLaws.{take-front}
use Rattle.model_core.specs.Core.{Read}
use Rattle.model_core.proofs.BaseLaws.{take-first, kind-later, derived-take, graph-longer}
use Rattle.model_core.proofs.ReadLaws.{suits-stays}
use Rattle.lasp_state.specs.declared.state.State.{State}
use Rattle.lasp_state.specs.State.{content_of}
use Rattle.lasp_graph.specs.Evaluated.{second_of}
use Rattle.lasp_graph.specs.Delta.{IsStateOf}
use Rattle.lasp_replica.specs.declared.job.Job.{Job}
use Rattle.lasp_core.specs.Core.{IsOpen}
use Rattle.lasp_replica.specs.Jobs.{AreInputsOf, IsJobOf, IsResultOf}

-- a variable that was derived still is
pub derived-later : (X : Frame) (entries more : List Entry) (y : ℕ) → IsDerived (graph X entries) y → IsDerived (graph X (entries ++ more)) y
derived-later X entries more y derived =
    derived-take X (entries ++ more) (length entries) y (subst (λ (h : List Entry). IsDerived (graph X h) y) (sym (take-first entries more)) derived)

pub job-derives : (X : Frame) (entries : List Entry) (job : Job) → IsJobOf X entries job → IsDerived (graph X entries) job.var
job-derives X entries job is = derived-take X entries job.n job.var is.derived

module _ (X : Frame) (entries more : List Entry) (job : Job) where
  -- the kind of a variable that was derived when the job began stays
  kind-stays : IsDerived (graph X (take job.n entries)) job.var → kind_at (graph X entries) job.var ≡ kind_at (graph X (entries ++ more)) job.var
  kind-stays derived = sym (kind-later X entries more job.var (derived-take X entries job.n job.var derived).declared)

  pub job-later : IsJobOf X entries job → IsJobOf X (entries ++ more) job
  job-later is = record {
    within = omega (arith, is.within, length-append entries more);
    derived = subst (λ (h : List Entry). IsDerived (graph X h) job.var) first is.derived;
    inputs = subst (λ (k : Kind). AreInputsOf k (vals X (take job.n (entries ++ more))) job.inputs) (kind-stays is.derived)
        (subst (λ (h : List Entry). AreInputsOf (kind_at (graph X entries) job.var) (vals X h) job.inputs) first is.inputs);
    gained = λ some. record {
      graph_is = (is.gained some).graph_is ∙ ap (λ (h : List Entry). graph X h) first;
      before_is = (is.gained some).before_is ∙ ap (λ (h : List Entry). val X h job.var) first;
    };
  } where
    first : take job.n entries ≡ take job.n (entries ++ more)
    first = sym (take-front entries more job.n is.within)

  pub result-later : (s : State) → IsDerived (graph X (take job.n entries)) job.var → IsResultOf X entries job s → IsResultOf X (entries ++ more) job s
  result-later s derived res = record {
    state_is = subst (λ (k : Kind). IsStateOf k (content_of (arc_value job.inputs.first)) (content_of (second_of job.inputs)) s) (kind-stays derived) res.state_is;
    small = res.small;
  }

pub open-later : (X : Frame) (entries more : List Entry) (r : Read) → IsOpen X entries r → IsOpen X (entries ++ more) r
open-later X entries more r open-now = record {
  declared = omega (arith, open-now.declared, graph-longer X entries more);
  suits_it = suits-stays X entries more r.var r.threshold open-now.declared open-now.suits_it;
}
