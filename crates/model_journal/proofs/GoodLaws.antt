-- What holds of every journal that legal entries lead to: one record, kept by each entry.
use Rattle.std.proofs.Common.{◌≡◌, ℕ, ◌+◌, ◌≤◌, ◌<◌, ◌⊎◌, inl, inr, IsTrue, length, refl, sym, ap, subst, ◌∙◌, arith}
use Rattle.model_states.specs.Content.{least, IsOrdered}
use Rattle.model_graph.specs.Graph.{Decl, is_set, kind_at, no_decl}
use Rattle.model_graph.specs.Evaluation.{least_of, content_at, equation}
use Rattle.model_graph.specs.Lawful.{IsGraph, IsDerived}
use Rattle.model_graph.proofs.PlaceLaws.{at-past, at-map, map-length, below-or-not}
use Rattle.model_graph.proofs.EquationLaws.{equation-least}
use Rattle.model_graph.proofs.LeastLaws.{least_of-ordered}
use Rattle.model_journal.specs.Entry.{Frame}
use Rattle.model_journal.specs.Journal.{Snapshot, Journal, snapshot_at, start}
use Rattle.model_journal.specs.Clean.{greatest_bound}
use Rattle.model_journal.proofs.GainLaws.{least_of-set, least_of-derived}
use Rattle.model_journal.proofs.GraphLaws.{input-set}
use Rattle.model_journal.proofs.StepLaws.{IsLater, later-itself}

pub record IsGood (X : Frame) (j : Journal) : Type 0 where
  -- a content for each variable
  pub shape : length j.now.contents ≡ length j.now.graph
  -- what stood after more entries stands later
  pub order : (i k : ℕ) → i ≤ k → IsLater (snapshot_at j i) (snapshot_at j k)
  pub uncounted : (x : ℕ) → (snapshot_at j 0).versions x ≡ 0
  pub bottom : (x : ℕ) → content_at (snapshot_at j 0).contents x ≡ least_of X.nodes (kind_at (snapshot_at j 0).graph x)
  pub tidy : (i x : ℕ) → IsOrdered (content_at (snapshot_at j i).contents x)
  -- a derived variable is its equation on what its base had
  pub based : (y : ℕ) → IsDerived j.now.graph y → content_at j.now.contents y ≡ equation (kind_at j.now.graph y) (snapshot_at j (greatest_bound j.binds y)).contents
  pub within : (y : ℕ) → greatest_bound j.binds y ≤ length j.past
  pub unbound : (y : ℕ) → length j.now.graph ≤ y → greatest_bound j.binds y ≡ 0
  pub graph : IsGraph j.now.graph

-- what stands now is later than all that stood
pub to-now : (X : Frame) (j : Journal) → IsGood X j → (i : ℕ) → IsLater (snapshot_at j i) j.now
to-now X j good i = subst (λ (s : Snapshot). IsLater (snapshot_at j i) s) (at-past j.past (i + length j.past) j.now (omega arith)) (good.order i (i + length j.past) (omega arith))

-- what stands now is in order
pub now-tidy : (X : Frame) (j : Journal) → IsGood X j → (x : ℕ) → IsOrdered (content_at j.now.contents x)
now-tidy X j good x = subst (λ (s : Snapshot). IsOrdered (content_at s.contents x)) (at-past j.past (length j.past) j.now (omega arith)) (good.tidy (length j.past) x)

-- every set was least before the first entry
pub set-bottom : (X : Frame) (j : Journal) → IsGood X j → (x : ℕ) → IsTrue (is_set (kind_at j.now.graph x)) → content_at (snapshot_at j 0).contents x ≡ least
set-bottom X j good x set = good.bottom x ∙ choose (below-or-not x (length (snapshot_at j 0).graph)) where
  choose : (x < length (snapshot_at j 0).graph) ⊎ (length (snapshot_at j 0).graph ≤ x) → least_of X.nodes (kind_at (snapshot_at j 0).graph x) ≡ least
  choose (inl h) = least_of-set X.nodes (kind_at (snapshot_at j 0).graph x) (subst (λ (d : Decl). IsTrue (is_set d.kind)) ((to-now X j good 0).kept x h) set)
  choose (inr h) = ap (λ (d : Decl). least_of X.nodes d.kind) (at-past (snapshot_at j 0).graph x no_decl h)

-- ---- the start

start-at : (X : Frame) (x : ℕ) → content_at (start X).now.contents x ≡ least_of X.nodes (kind_at X.opening x)
start-at X x = at-map (λ d. least_of X.nodes d.kind) X.opening x no_decl

-- before the first entry a derived variable is its equation
start-based : (X : Frame) → IsGraph X.opening → (y : ℕ) → IsDerived X.opening y → content_at (start X).now.contents y ≡ equation (kind_at X.opening y) (start X).now.contents
start-based X ok y d =
    start-at X y
    ∙ least_of-derived X.nodes (kind_at X.opening y) d.process
    ∙ sym (equation-least (kind_at X.opening y) (start X).now.contents (λ x i. start-at X x ∙ least_of-set X.nodes (kind_at X.opening x) (input-set X.opening ok y x i)))

pub start-good : (X : Frame) → IsGraph X.opening → IsGood X (start X)
start-good X ok = record {
  shape = map-length (λ d. least_of X.nodes d.kind) X.opening;
  order = λ i k h. later-itself (start X).now;
  uncounted = λ x. refl;
  bottom = start-at X;
  tidy = λ i x. subst IsOrdered (sym (start-at X x)) (least_of-ordered X.nodes (kind_at X.opening x));
  based = start-based X ok;
  within = λ y. omega arith;
  unbound = λ y h. refl;
  graph = ok;
}
