-- A graph that was read is a graph, and what may be read next may follow.
use Rattle.std.proofs.Common.{◌≡◌, ℕ, zero, suc, ◌<◌, inl, inr, IsTrue, List, [], ◌∷◌, length, take, Some, sym, subst, arith}
use Rattle.std.specs.Prelude.{slice_get}
use Rattle.std.proofs.lemmas.List.{length-take}
use Rattle.std.proofs.lemmas.Option.{slice_get_within}
use Rattle.model_graph.specs.Graph.{Kind, OrSet, GSet, Counter, MaxReg, Union, Product, Intersection, Map, Filter, Fold, Decl, decl_at, kind_at, is_set, IsInput}
use Rattle.model_graph.specs.Lawful.{variable_limit, MayFollow, IsGraph}
use Rattle.model_readings.specs.Lawful as readings
use Rattle.model_readings.specs.Lawful.{IsSetAt, AreInputs, IsNext}
use Rattle.model_runs.proofs.HeldLaws.{declared-at}

got-at : (g : List Decl) (x : ℕ) (d : Decl) → slice_get g x ≡ Some d → decl_at g x ≡ d
got-at [] x d e = absurd cc
got-at (c ∷ g) zero d e = cc
got-at (c ∷ g) (suc x) d e = got-at g x d e

-- the variable is declared, and a set
abbrev IsInputOf : List Decl → ℕ → Type 0
IsInputOf g x = (x < length g) × IsTrue (is_set (kind_at g x))

set-input : (g : List Decl) (a x : ℕ) → IsSetAt g a → x ≡ a → IsInputOf g x
set-input g a x h e =
    subst (IsInputOf g) (sym e) (slice_get_within g a h.decl h.declared, subst (λ (d : Decl). IsTrue (is_set d.kind)) (sym (got-at g a h.decl h.declared)) h.set)

inputs-are : (g : List Decl) (k : Kind) → AreInputs g k → (x : ℕ) → IsInput k x → IsInputOf g x
inputs-are g OrSet h x i = absurd i
inputs-are g GSet h x i = absurd i
inputs-are g Counter h x i = absurd i
inputs-are g MaxReg h x i = absurd i
inputs-are g (Union a b) h x (inl e) = set-input g a x h.0 e
inputs-are g (Union a b) h x (inr e) = set-input g b x h.1 e
inputs-are g (Product a b) h x (inl e) = set-input g a x h.0 e
inputs-are g (Product a b) h x (inr e) = set-input g b x h.1 e
inputs-are g (Intersection a b) h x (inl e) = set-input g a x h.0 e
inputs-are g (Intersection a b) h x (inr e) = set-input g b x h.1 e
inputs-are g (Map a place ops) h x i = set-input g a x h i
inputs-are g (Filter a place ops) h x i = set-input g a x h i
inputs-are g (Fold a op place lift) h x i = set-input g a x h i

pub next-follows : (g : List Decl) (d : Decl) → IsNext g d → length g < variable_limit → MayFollow g d
next-follows g d next room = record {
  new = λ x low. next.new x (decl_at g x) (declared-at g x low);
  earlier = λ x i. (inputs-are g d.kind next.inputs x i).0;
  sets = λ x i. (inputs-are g d.kind next.inputs x i).1;
  kind = next.kind;
  narrow = next.narrow;
  room = room;
}

pub graph-follows : (g : List Decl) → readings.IsGraph g → IsGraph g
graph-follows g h y low = next-follows (take y g) (decl_at g y) (h.each y (decl_at g y) (declared-at g y low)) (omega (arith, length-take y g, low, h.few))

pub ruleset graphs = (next-follows, graph-follows)
