-- Kinds one by one: their inputs, their shapes, their processes on the inputs that they read, and the news of a set.
use Rattle.std.proofs.Common.{◌≡◌, ℕ, pos, ◌⊎◌, inl, inr, true, false, IsTrue, IsFalse, List, [], ◌++◌, refl, sym, subst, ◌∙◌, append-nil}
use Rattle.model_values.specs.Row.{Row}
use Rattle.model_sets.specs.Rows.{of_rows, join}
use Rattle.model_states.specs.Content.{Content}
use Rattle.model_states.specs.Threshold.{set}
use Rattle.model_graph.specs.Graph.{Kind, OrSet, GSet, Counter, MaxReg, Union, Product, Intersection, Map, Filter, Fold, is_source, is_set, IsInput}
use Rattle.model_graph.specs.Evaluation.{least_of, content_at, equation}
use Rattle.model_graph.specs.Lawful.{shape_of}
use Rattle.model_sets.specs.Rises.{AreRises}
use Rattle.lasp_replica.proofs.RowsLaws.{log-any, rises-any, none-made}
use Rattle.lasp_graph.specs.Evaluated.{process, derived_shape, number_by}
use Rattle.lasp_replica.specs.Parts.{first_input, second_input, news_of, AreRowsOf}

-- ---- inputs

pub first-input : (k : Kind) → IsFalse (is_source k) → IsInput k (first_input k)
first-input OrSet d = cc
first-input GSet d = cc
first-input Counter d = cc
first-input MaxReg d = cc
first-input (Union x y) d = inl refl
first-input (Product x y) d = inl refl
first-input (Intersection x y) d = inl refl
first-input (Map x place ops) d = refl
first-input (Filter x place ops) d = refl
first-input (Fold x op place lift) d = refl

pub second-input : (k : Kind) → IsFalse (is_source k) → IsInput k (second_input k)
second-input OrSet d = cc
second-input GSet d = cc
second-input Counter d = cc
second-input MaxReg d = cc
second-input (Union x y) d = inr refl
second-input (Product x y) d = inr refl
second-input (Intersection x y) d = inr refl
second-input (Map x place ops) d = refl
second-input (Filter x place ops) d = refl
second-input (Fold x op place lift) d = refl

pub input-only : (k : Kind) (x : ℕ) → IsInput k x → (x ≡ first_input k) ⊎ (x ≡ second_input k)
input-only OrSet x i = absurd i
input-only GSet x i = absurd i
input-only Counter x i = absurd i
input-only MaxReg x i = absurd i
input-only (Union a b) x i = i
input-only (Product a b) x i = i
input-only (Intersection a b) x i = i
input-only (Map a place ops) x i = inl i
input-only (Filter a place ops) x i = inl i
input-only (Fold a op place lift) x i = inl i

-- ---- processes

pub equation-process : (k : Kind) (contents : List Content) → equation k contents ≡ process k (content_at contents (first_input k)) (content_at contents (second_input k))
equation-process OrSet contents = refl
equation-process GSet contents = refl
equation-process Counter contents = refl
equation-process MaxReg contents = refl
equation-process (Union x y) contents = refl
equation-process (Product x y) contents = refl
equation-process (Intersection x y) contents = refl
equation-process (Map x place ops) contents = refl
equation-process (Filter x place ops) contents = refl
equation-process (Fold x op place lift) contents = refl

-- before anything happened every number is 0
pub number-least : (nodes : ℕ) (k : Kind) → number_by k (least_of nodes k) ≡ pos 0
number-least nodes OrSet = refl
number-least nodes GSet = refl
number-least nodes Counter = refl
number-least nodes MaxReg = refl
number-least nodes (Union x y) = refl
number-least nodes (Product x y) = refl
number-least nodes (Intersection x y) = refl
number-least nodes (Map x place ops) = refl
number-least nodes (Filter x place ops) = refl
number-least nodes (Fold x op place lift) = refl

-- ---- shapes

-- a process has one shape whatever the number of nodes
pub shape-derived : (nodes : ℕ) (k : Kind) → IsFalse (is_source k) → shape_of nodes k ≡ derived_shape k
shape-derived nodes OrSet d = cc
shape-derived nodes GSet d = cc
shape-derived nodes Counter d = cc
shape-derived nodes MaxReg d = cc
shape-derived nodes (Union x y) d = refl
shape-derived nodes (Product x y) d = refl
shape-derived nodes (Intersection x y) d = refl
shape-derived nodes (Map x place ops) d = refl
shape-derived nodes (Filter x place ops) d = refl
shape-derived nodes (Fold x op place lift) d = refl

pub shape-set : (nodes : ℕ) (k : Kind) → IsTrue (is_set k) → shape_of nodes k ≡ set
shape-set nodes OrSet s = refl
shape-set nodes GSet s = cc
shape-set nodes Counter s = cc
shape-set nodes MaxReg s = cc
shape-set nodes (Union x y) s = refl
shape-set nodes (Product x y) s = refl
shape-set nodes (Intersection x y) s = refl
shape-set nodes (Map x place ops) s = refl
shape-set nodes (Filter x place ops) s = refl
shape-set nodes (Fold x op place lift) s = cc

-- ---- news

-- the rows of a log and the news of a content that is joined in
pub record AreNews (k : Kind) (log : List Row) (news : List Row) (s c : Content) : Type 0 where
  pub rises : AreRises [] (log ++ news)
  pub rows : IsTrue (is_set k) → of_rows (log ++ news) ≡ join s.rows c.rows

set-news : (k : Kind) (log : List Row) (s c : Content) (news : List Row) → AreRises [] log → of_rows log ≡ s.rows → AreRowsOf (news_of set s c) news → AreNews k log news s c
set-news k log s c news up is of = record { rises = rises-any log s.rows c.rows news up is of; rows = λ _. log-any log s.rows c.rows news is of }

other-news : (k : Kind) (log : List Row) (s c : Content) (news : List Row) → is_set k ≡ false → AreRises [] log → AreRowsOf [] news → AreNews k log news s c
other-news k log s c news no_set up of = record {
  rises = subst (λ (rows : List Row). AreRises [] (log ++ rows)) (sym (none-made news of)) (subst (AreRises []) (sym (append-nil log)) up);
  rows = λ set. absurd (let same : true ≡ false = sym set ∙ no_set in cc);
}

pub news-join : (nodes : ℕ) (k : Kind) (log : List Row) (s c : Content) (news : List Row) → AreRises [] log → (IsTrue (is_set k) → of_rows log ≡ s.rows) → AreRowsOf (news_of (shape_of nodes k) s c) news → AreNews k log news s c
news-join nodes OrSet log s c news up is of = set-news OrSet log s c news up (is refl) of
news-join nodes GSet log s c news up is of = other-news GSet log s c news refl up of
news-join nodes Counter log s c news up is of = other-news Counter log s c news refl up of
news-join nodes MaxReg log s c news up is of = other-news MaxReg log s c news refl up of
news-join nodes (Union x y) log s c news up is of = set-news (Union x y) log s c news up (is refl) of
news-join nodes (Product x y) log s c news up is of = set-news (Product x y) log s c news up (is refl) of
news-join nodes (Intersection x y) log s c news up is of = set-news (Intersection x y) log s c news up (is refl) of
news-join nodes (Map x place ops) log s c news up is of = set-news (Map x place ops) log s c news up (is refl) of
news-join nodes (Filter x place ops) log s c news up is of = set-news (Filter x place ops) log s c news up (is refl) of
news-join nodes (Fold x op place lift) log s c news up is of = other-news (Fold x op place lift) log s c news refl up of
