-- What the entries tell of a job that was just handed out, and of the states that are shown.
use Rattle.std.proofs.Common.{◌≡◌, ℕ, ◌<◌, ◌≤◌, pos, Bool, true, false, List, length, take, refl, sym, ap, subst, ◌∙◌, ◌+◌, if◌then◌else◌}
use Rattle.std.specs.Prelude.{is_some}
use Rattle.std.specs.Arc.{arc_value}
use Rattle.std.proofs.Math.Seq.{take-length}
use Rattle.model_sets.specs.Equations.{changed}
use Rattle.model_functions.specs.Library.{Library}
use Rattle.model_states.specs.Content.{Content, size_of, row_limit}
use Rattle.model_states.specs.Threshold.{fold}
use Rattle.model_graph.specs.Graph.{Decl, Kind, OrSet, GSet, Counter, MaxReg, Union, Product, Intersection, Map, Filter, Fold, is_source, kind_at}
use Rattle.model_graph.specs.Evaluation.{content_at, equation}
use Rattle.model_graph.specs.Lawful as lawful
use Rattle.model_graph.proofs.LeastLaws.{no-fold}
use Rattle.model_readings.specs.Lawful.{FitsAll}
use Rattle.model_journal.specs.Entry.{Entry, Frame}
use Rattle.model_journal.specs.Journal.{graph, val, vals}
use Rattle.model_core.specs.Core.{Core}
use Rattle.model_core.proofs.BaseLaws.{derived-take}
use Rattle.lasp_state.specs.declared.state.State.{State}
use Rattle.lasp_state.specs.declared.state.State.TheVariants as state
use Rattle.lasp_state.specs.State.{content_of, shape_of, number_of}
use Rattle.lasp_graph.specs.States.{held_of}
use Rattle.lasp_graph.specs.Evaluated.{process, second_of, number_by}
use Rattle.lasp_graph.specs.Delta as delta
use Rattle.lasp_graph.specs.declared.inputs.Inputs.{Inputs}
use Rattle.lasp_replica.specs.declared.job.Job.{Job}
use Rattle.lasp_replica.specs.Asked.{has_two}
use Rattle.lasp_replica.specs.Parts.{first_input, second_input}
use Rattle.lasp_replica.specs.Jobs.{AreInputsOf, IsJobOf, IsJobNow, IsResultOf, unread, unread_rows}
use Rattle.lasp_replica.proofs.KindLaws.{equation-process}
use Rattle.lasp_core.specs.Core.{rows_of, IsStateOf, state_after}
use Rattle.lasp_core.specs.Evaluated.{evaluated, IsEvaluated, IsSameJob}

-- ---- the rows of a job

module _ (X : Frame) (h : List Entry) (y : ℕ) (job : Job) (now : IsJobNow X h y job) where
  -- what its inputs hold is what stands now
  present : (place : Kind → ℕ) (c : Content) → c ≡ content_at (vals X (take job.n h)) (place (kind_at (graph X h) job.var)) → c ≡ val X h (place (kind_at (graph X h) y))
  present place c is = is ∙ (λ i. content_at (vals X (take (now.now i) h)) (place (kind_at (graph X h) (now.var i)))) ∙ ap (λ (k : List Entry). content_at (vals X k) (place (kind_at (graph X h) y))) (take-length h)

  first-unread : job.first ≡ unread X h y (first_input (kind_at (graph X h) y))
  first-unread = now.first ∙ (λ i. changed (now.earlier.first i).rows (present first_input (content_of (arc_value job.inputs.first)) now.is.inputs.first i).rows)

  second-unread : job.second ≡ unread X h y (second_input (kind_at (graph X h) y))
  second-unread = now.second ∙ (λ i. changed (now.earlier.second i).rows (present second_input (content_of (second_of job.inputs)) now.is.inputs.second i).rows)

  two-inputs : is_some job.inputs.second ≡ has_two (kind_at (graph X h) y)
  two-inputs = now.is.inputs.two ∙ ap (λ (z : ℕ). has_two (kind_at (graph X h) z)) now.var

  pub rows-unread : rows_of job ≡ unread_rows X h y
  rows-unread i = length (first-unread i) + (if two-inputs i then length (second-unread i) else 0)

-- ---- what a job stands for

module _ (X : Frame) (h : List Entry) (y : ℕ) (job : Job) (now : IsJobNow X h y job) where
  all-entries : take job.n h ≡ h
  all-entries = ap (λ (n : ℕ). take n h) now.now ∙ take-length h

  pub job-graph : arc_value job.graph ≡ graph X h
  job-graph = now.own.graph_is ∙ ap (λ (k : List Entry). graph X k) all-entries

  pub job-derived : lawful.IsDerived (graph X h) job.var
  job-derived = derived-take X h job.n job.var now.is.derived

  -- its process on its inputs is the variable's equation
  pub job-equation : equation (kind_at (graph X h) job.var) (vals X h) ≡ evaluated job
  job-equation =
      let k = kind_at (graph X h) job.var in
      ap (λ (l : List Entry). equation k (vals X l)) (sym all-entries)
      ∙ equation-process k (vals X (take job.n h))
      ∙ (λ i. process (kind_at (sym job-graph i) job.var) (sym now.is.inputs.first i) (sym now.is.inputs.second i))

  pub job-present : evaluated job ≡ equation (kind_at (graph X h) y) (vals X h)
  job-present = sym job-equation ∙ ap (λ (z : ℕ). equation (kind_at (graph X h) z) (vals X h)) now.var

  pub job-fits : (lib : Library) → FitsAll lib (graph X h) → FitsAll lib (arc_value job.graph)
  job-fits lib fits = subst (λ (g : List Decl). FitsAll lib g) (sym job-graph) fits

  module _ (done : Job) (same : IsSameJob job done) where
    pub job-done : IsJobOf X h done
    job-done = record {
      within = subst (λ (n : ℕ). n ≤ length h) (sym same.n) now.is.within;
      derived = subst (λ (p : ℕ × ℕ). lawful.IsDerived (graph X (take p.0 h)) p.1) (λ i. (sym same.n i, sym same.var i)) now.is.derived;
      inputs = subst (λ (p : ℕ × (ℕ × Inputs)). AreInputsOf (kind_at (graph X h) p.1.0) (vals X (take p.0 h)) p.1.1) (λ i. (sym same.n i, (sym same.var i, sym same.inputs i))) now.is.inputs;
      gained = λ some. record {
        graph_is = (λ i. arc_value (same.graph i)) ∙ now.own.graph_is ∙ ap (λ (n : ℕ). graph X (take n h)) (sym same.n);
        before_is = (λ i. content_of (arc_value (same.before i))) ∙ now.own.before_is ∙ (λ i. val X (take (sym same.n i) h) (sym same.var i));
      };
    }

    pub result-done : (s : State) → IsEvaluated job s → size_of (content_of s) ≤ row_limit → IsResultOf X h done s
    result-done s is small = record {
      state_is = subst (λ (p : Kind × Inputs). delta.IsStateOf p.0 (content_of (arc_value p.1.first)) (content_of (second_of p.1)) s) (λ i. (kind_at (job-graph i) (sym same.var i), sym same.inputs i)) is;
      small = small;
    }

-- ---- the state of a variable

source-number : (k : Kind) (c : Content) → is_source k ≡ true → number_by k c ≡ pos 0
source-number OrSet c source = refl
source-number GSet c source = refl
source-number Counter c source = refl
source-number MaxReg c source = refl
source-number (Union x y) c source = refl
source-number (Product x y) c source = refl
source-number (Intersection x y) c source = refl
source-number (Map x place ops) c source = refl
source-number (Filter x place ops) c source = refl
source-number (Fold x op place lift) c source = cc

-- what is no fold has no number
no-number : (s : State) → (shape_of s ≡ fold → ⊥) → number_of s ≡ pos 0
no-number (state.Set rows) other = refl
no-number (state.Grow values) other = refl
no-number (state.Count counts) other = refl
no-number (state.Max m) other = refl
no-number (state.Fold rows n) other = absurd (other refl)

pub state-told : (c : Core) (x : ℕ) (s : State) → x < length (graph c.frame c.entries) → IsStateOf c x s → held_of s ≡ state_after c.frame c.entries x
state-told c x s low is = (λ i. record { shape = is.shape i; content = is.content i; number = number i }) where
  k : Kind
  k = kind_at (graph c.frame c.entries) x

  choose : (b : Bool) → is_source k ≡ b → number_of s ≡ number_by k (val c.frame c.entries x)
  choose true source = no-number s (λ e. no-fold c.frame.nodes k source (sym is.shape ∙ e)) ∙ sym (source-number k (val c.frame c.entries x) source)
  choose false process = is.number (record { declared = low; process = process }) ∙ ap (λ (t : Content). number_by k t) is.content

  number : number_of s ≡ number_by k (val c.frame c.entries x)
  number = choose (is_source k) refl
