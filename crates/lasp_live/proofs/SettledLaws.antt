-- What a node that was settled shows, while results go on to come.
use Rattle.std.proofs.Common.{◌≡◌, ℕ, ℤ, ◌<◌, Bool, true, false, IsTrue, List, [], ◌++◌, length, sum, take, refl, sym, ap, subst, ◌∙◌}
use Rattle.std.specs.Arc.{arc_value}
use Rattle.std.specs.Fmt.{decimal, signed_decimal}
use Rattle.std.specs.declared.alloc.Global.{Global}
use Rattle.std.specs.declared.sync.Arc.{Arc}
use Rattle.model_core.proofs.SourceLaws.{sources-source}
use Rattle.model_core.proofs.ValidLaws.{val-ordered}
use Rattle.model_graph.specs.Evaluation.{content_at, eval}
use Rattle.model_graph.specs.Graph.{Kind, OrSet, GSet, Counter, MaxReg, Union, Product, Intersection, Map, Filter, Fold, Decl, is_source, kind_at}
use Rattle.model_graph.specs.Lawful.{IsDerived}
use Rattle.model_graph.specs.Lawful as lawful
use Rattle.model_graph.proofs.EvalLaws.{eval-derived, eval-given, eval-ordered}
use Rattle.model_journal.specs.Clean.{base}
use Rattle.model_journal.specs.Entry.{Entry, Frame}
use Rattle.model_journal.specs.Journal.{declared, graph, sources, val, vals}
use Rattle.model_journal.specs.Legal.{IsLegal}
use Rattle.model_journal.proofs.CleanLaws.{val-based, vals-below-eval}
use Rattle.model_journal.proofs.JournalLaws.{journal-graph, vals-grow}
use Rattle.model_journal.proofs.LegalLaws.{legal-first}
use Rattle.model_journal.proofs.NextLaws.{equation-flat}
use Rattle.model_runs.specs.Calls.{unbound}
use Rattle.model_values.specs.Text.{shown_values}
use Rattle.model_sets.specs.Rows.{visible}
use Rattle.model_states.specs.Content.{Content, IsContentAtMost, IsOrdered}
use Rattle.model_states.specs.Threshold.{Shape}
use Rattle.model_states.specs.Threshold as shape
use Rattle.model_states.proofs.ContentLaws.{same-content}
use Rattle.model_world.specs.Line.{shown_content, shown_top}
use Rattle.model_live.specs.Story.{shown_after}
use Rattle.model_live.proofs.EndLaws.{kept-results}
use Rattle.model_live.proofs.HearLaws.{graph-opens}
use Rattle.model_live.proofs.StoryLaws.{now-shown}
use Rattle.lasp_core.specs.Core.{state_after}
use Rattle.lasp_graph.specs.Evaluated.{number_by}
use Rattle.lasp_graph.specs.States.{Held, held_of}
use Rattle.lasp_state.specs.State.{content_of, number_of, shape_of, shown_state}
use Rattle.lasp_state.specs.declared.state.State.{State}
use Rattle.lasp_state.specs.declared.state.State.TheVariants as state
use Rattle.lasp_live.specs.Diary.{IsTold}
use Rattle.lasp_live.specs.Turns.{AreEvaluated, Learns}
use Rattle.lasp_live.specs.declared.diary.Noted.TheVariants.{Print}

-- ---- what was evaluated stays so

abbrev evaluation : Frame → List Entry → List Content
evaluation X h = eval (graph X h) (sources X h)

evaluated-same : (X : Frame) (h more : List Entry) → IsLegal X (h ++ more) → unbound more ≡ [] → evaluation X (h ++ more) ≡ evaluation X h
evaluated-same X h more legal results = let kept = kept-results X h more legal results in λ i. eval (kept.graph_is i) (kept.peer i).contents

evaluated-at : (X : Frame) (h more : List Entry) (x : ℕ) → IsLegal X (h ++ more) → unbound more ≡ [] → AreEvaluated X h → x < length (graph X (h ++ more)) → val X (h ++ more) x ≡ content_at (evaluation X (h ++ more)) x
evaluated-at X h more x legal results are low = choose (is_source (kind_at (graph X k) x)) refl where
  k : List Entry
  k = h ++ more

  g : List Decl
  g = graph X k

  -- a source is as it is given
  ordered : (y : ℕ) → y < length g → IsTrue (is_source (kind_at g y)) → IsOrdered (content_at (sources X k) y)
  ordered y there source = subst IsOrdered (sym (sources-source g (vals X k) y there source)) (val-ordered X k legal y)

  choose : (b : Bool) → is_source (kind_at g x) ≡ b → val X k x ≡ content_at (evaluation X k) x
  choose true source = sym (eval-given g (sources X k) x low source ∙ sources-source g (vals X k) x low source)
  choose false process =
      let d : IsDerived g x = record { declared = low; process = process } in
      let above : IsContentAtMost (content_at (evaluation X k) x) (val X k x) =
      subst (λ (s : Content). IsContentAtMost s (val X k x)) (ap (λ (ss : List Content). content_at ss x) (are ∙ sym (evaluated-same X h more legal results))) (vals-grow X h more x) in
      let flat : length (val X k x).counts ≡ length (content_at (evaluation X k) x).counts =
      ap (λ (s : Content). length s.counts) (val-based X k legal x d)
      ∙ equation-flat (kind_at g x) (vals X (take (base X k x) k))
      ∙ sym (ap (λ (s : Content). length s.counts) (eval-derived g (sources X k) (journal-graph X k legal) x d) ∙ equation-flat (kind_at g x) (evaluation X k)) in
      same-content (val X k x) (content_at (evaluation X k) x) (val-ordered X k legal x) (eval-ordered g (sources X k) ordered x) flat (vals-below-eval X k legal x) above

-- what is kept of a variable of a settled node is what plain evaluation shows
pub settled-shown : (X : Frame) (h k : List Entry) (x : ℕ) → AreEvaluated X h → Learns h k → IsLegal X k → x < length (graph X k) → val X k x ≡ shown_after X k (length k) x
settled-shown X h k x are learned legal low =
    subst (λ (l : List Entry). val X l x ≡ shown_after X l (length l) x) (sym learned.is)
    (evaluated-at X h learned.more x (subst (IsLegal X) learned.is legal) learned.results are (subst (λ (l : List Entry). x < length (graph X l)) learned.is low) ∙ sym (now-shown X (h ++ learned.more) x))

-- ---- how a state is printed

-- what has such a shape is printed so
abbrev drawn : Shape → Content → ℤ → List ℕ
drawn shape.set c n = shown_values (visible c.rows)
drawn shape.grow c n = shown_values c.values
drawn (shape.counter m) c n = decimal (sum c.counts)
drawn shape.register c n = shown_top c.top
drawn shape.fold c n = signed_decimal n

state-drawn : (s : State) → shown_state s ≡ drawn (shape_of s) (content_of s) (number_of s)
state-drawn (state.Set rows) = refl
state-drawn (state.Grow values) = refl
state-drawn (state.Count counts) = refl
state-drawn (state.Max m) = refl
state-drawn (state.Fold rows n) = refl

kind-drawn : (nodes : ℕ) (k : Kind) (c : Content) → drawn (lawful.shape_of nodes k) c (number_by k c) ≡ shown_content k c
kind-drawn nodes OrSet c = refl
kind-drawn nodes GSet c = refl
kind-drawn nodes Counter c = refl
kind-drawn nodes MaxReg c = refl
kind-drawn nodes (Union x y) c = refl
kind-drawn nodes (Product x y) c = refl
kind-drawn nodes (Intersection x y) c = refl
kind-drawn nodes (Map x place ops) c = refl
kind-drawn nodes (Filter x place ops) c = refl
kind-drawn nodes (Fold x o place lift) c = refl

-- a state of a kind's shape, with the number of its kind, is printed as its content is
printed : (nodes : ℕ) (k : Kind) (s : State) (c : Content) → held_of s ≡ record { shape = lawful.shape_of nodes k; content = c; number = number_by k c } → shown_state s ≡ shown_content k c
printed nodes k s c is = state-drawn s ∙ ap (λ (h : Held). drawn h.shape h.content h.number) is ∙ kind-drawn nodes k c

pub print-told : (X : Frame) (h mid k : List Entry) (x : ℕ) (a : Arc State Global) → AreEvaluated X h → Learns h mid → Learns mid k → IsLegal X k → declared k ≡ [] → x < length X.opening → held_of (arc_value a) ≡ state_after X mid x → IsTold X k (length k) (Print x a)
print-told X h mid k x a are first next legal none low held =
    let opens : graph X k ≡ X.opening = graph-opens X k none in
    let whole : IsLegal X (mid ++ next.more) = subst (IsLegal X) next.is legal in
    let before : IsLegal X mid = legal-first X mid next.more whole in
    let kept = kept-results X mid next.more whole next.results in
    let same : graph X mid ≡ X.opening = sym (ap (graph X) next.is ∙ kept.graph_is) ∙ opens in
    let shown : val X mid x ≡ shown_after X k (length k) x =
    settled-shown X h mid x are first before (subst (λ (g : List Decl). x < length g) (sym same) low)
    ∙ now-shown X mid x ∙ ap (λ (ss : List Content). content_at ss x) (sym (ap (evaluation X) next.is ∙ evaluated-same X mid next.more whole next.results)) ∙ sym (now-shown X k x) in
    let kind : kind_at (graph X mid) x ≡ kind_at X.opening x = ap (λ (g : List Decl). kind_at g x) same in
    let content : content_of (arc_value a) ≡ shown_after X k (length k) x = ap (λ (h : Held). h.content) held ∙ shown in
    (low, content, printed X.nodes (kind_at (graph X mid) x) (arc_value a) (val X mid x) held ∙ ap (λ (q : Kind). shown_content q (val X mid x)) kind ∙ ap (shown_content (kind_at X.opening x)) shown)

pub ruleset shown = (settled-shown, print-told)
