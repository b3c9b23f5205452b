-- What a variable of a kind holds before anything happened, that a process has no counts, and that a source is no fold.
use Rattle.std.proofs.Common.{◌≡◌, ℕ, IsTrue, List, [], length, refl}
use Rattle.model_states.specs.Content.{Content, IsOrdered}
use Rattle.model_states.specs.Threshold.{fold}
use Rattle.model_graph.specs.Graph.{Kind, OrSet, GSet, Counter, MaxReg, Union, Product, Intersection, Map, Filter, Fold, is_source}
use Rattle.model_graph.specs.Evaluation.{least_of, equation}
use Rattle.model_graph.specs.Lawful.{shape_of}

pub least_of-rows : (nodes : ℕ) (k : Kind) → (least_of nodes k).rows ≡ []
least_of-rows nodes OrSet = refl
least_of-rows nodes GSet = refl
least_of-rows nodes Counter = refl
least_of-rows nodes MaxReg = refl
least_of-rows nodes (Union x y) = refl
least_of-rows nodes (Product x y) = refl
least_of-rows nodes (Intersection x y) = refl
least_of-rows nodes (Map x place ops) = refl
least_of-rows nodes (Filter x place ops) = refl
least_of-rows nodes (Fold x op place lift) = refl

pub least_of-ordered : (nodes : ℕ) (k : Kind) → IsOrdered (least_of nodes k)
least_of-ordered nodes OrSet = record { rows = refl; values = refl }
least_of-ordered nodes GSet = record { rows = refl; values = refl }
least_of-ordered nodes Counter = record { rows = refl; values = refl }
least_of-ordered nodes MaxReg = record { rows = refl; values = refl }
least_of-ordered nodes (Union x y) = record { rows = refl; values = refl }
least_of-ordered nodes (Product x y) = record { rows = refl; values = refl }
least_of-ordered nodes (Intersection x y) = record { rows = refl; values = refl }
least_of-ordered nodes (Map x place ops) = record { rows = refl; values = refl }
least_of-ordered nodes (Filter x place ops) = record { rows = refl; values = refl }
least_of-ordered nodes (Fold x op place lift) = record { rows = refl; values = refl }

pub equation-flat : (k : Kind) (contents : List Content) → length (equation k contents).counts ≡ 0
equation-flat OrSet contents = refl
equation-flat GSet contents = refl
equation-flat Counter contents = refl
equation-flat MaxReg contents = refl
equation-flat (Union x y) contents = refl
equation-flat (Product x y) contents = refl
equation-flat (Intersection x y) contents = refl
equation-flat (Map x place ops) contents = refl
equation-flat (Filter x place ops) contents = refl
equation-flat (Fold x op place lift) contents = refl

pub no-fold : (nodes : ℕ) (k : Kind) → IsTrue (is_source k) → shape_of nodes k ≡ fold → ⊥
no-fold nodes OrSet source e = cc
no-fold nodes GSet source e = cc
no-fold nodes Counter source e = cc
no-fold nodes MaxReg source e = cc
no-fold nodes (Union x y) source e = cc
no-fold nodes (Product x y) source e = cc
no-fold nodes (Intersection x y) source e = cc
no-fold nodes (Map x place ops) source e = cc
no-fold nodes (Filter x place ops) source e = cc
no-fold nodes (Fold x op place lift) source e = cc
