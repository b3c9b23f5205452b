-- What a content gains: it grows, keeps its order, and has no fewer counts. And what a variable has before anything happened.
use Rattle.std.proofs.Common.{◌≡◌, ℕ, ◌≤◌, IsTrue, IsFalse, length, Option, Some, None, refl, arith}
use Rattle.model_states.specs.Content.{Content, least, IsContentAtMost, IsOrdered}
use Rattle.model_states.proofs.ContentLaws.{at_most-itself, join-left, ordered-join, counts-join}
use Rattle.model_graph.specs.Graph.{Kind, OrSet, GSet, Counter, MaxReg, Union, Product, Intersection, Map, Filter, Fold, is_source, is_set}
use Rattle.model_graph.specs.Evaluation.{least_of}
use Rattle.model_graph.specs.Message.{with_gain}

pub gain-grows : (s : Content) (gain : Option Content) → IsContentAtMost s (with_gain s gain)
gain-grows s None = at_most-itself s
gain-grows s (Some t) = join-left s t

pub gain-ordered : (s : Content) (gain : Option Content) → IsOrdered s → IsOrdered (with_gain s gain)
gain-ordered s None up = up
gain-ordered s (Some t) up = ordered-join s t

pub gain-wider : (s : Content) (gain : Option Content) → length s.counts ≤ length (with_gain s gain).counts
gain-wider s None = omega arith
gain-wider s (Some t) = omega (arith, counts-join s t)

-- ---- before anything happened

-- a set is least
pub least_of-set : (nodes : ℕ) (k : Kind) → IsTrue (is_set k) → least_of nodes k ≡ least
least_of-set nodes OrSet e = refl
least_of-set nodes GSet e = refl
least_of-set nodes Counter e = cc
least_of-set nodes MaxReg e = refl
least_of-set nodes (Union x y) e = refl
least_of-set nodes (Product x y) e = refl
least_of-set nodes (Intersection x y) e = refl
least_of-set nodes (Map x place ops) e = refl
least_of-set nodes (Filter x place ops) e = refl
least_of-set nodes (Fold x op place lift) e = refl

-- a derived variable is least
pub least_of-derived : (nodes : ℕ) (k : Kind) → IsFalse (is_source k) → least_of nodes k ≡ least
least_of-derived nodes OrSet e = refl
least_of-derived nodes GSet e = refl
least_of-derived nodes Counter e = cc
least_of-derived nodes MaxReg e = refl
least_of-derived nodes (Union x y) e = refl
least_of-derived nodes (Product x y) e = refl
least_of-derived nodes (Intersection x y) e = refl
least_of-derived nodes (Map x place ops) e = refl
least_of-derived nodes (Filter x place ops) e = refl
least_of-derived nodes (Fold x op place lift) e = refl
