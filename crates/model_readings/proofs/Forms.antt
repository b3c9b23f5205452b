-- An accepted graph is a graph.
use Rattle.std.proofs.Common.{◌≢◌, sym, subst, ℕ, ◌<◌, ◌≤◌, List, length, take, IsTrue, arith}
use mathlib.Core.Logic.{inl, inr}
use Rattle.std.proofs.lemmas.List.{length-take}
use Rattle.std.proofs.lemmas.Option.{slice_get_within, slice_get-get_or, get_or_from_slice_get}
use Rattle.model_graph.specs.Graph.{Kind, OrSet, GSet, Counter, MaxReg, Union, Product, Intersection, Map, Filter, Fold, Decl, IsInput, is_set, no_decl, decl_at, kind_at, name_at}
use Rattle.model_graph.specs.Lawful as graphs
use Rattle.model_readings.specs.Lawful.{IsSetAt, AreInputs, IsNext, IsGraph}

-- a set is an earlier declaration
record IsEarlierSet (g : List Decl) (x : ℕ) : Type 0 where
  earlier : x < length g
  set : IsTrue (is_set (kind_at g x))

earlier-set : (g : List Decl) (x : ℕ) → IsSetAt g x → IsEarlierSet g x
earlier-set g x s = record {
  earlier = slice_get_within g x s.decl s.declared;
  set = subst (λ (d : Decl). IsTrue (is_set d.kind)) (sym (get_or_from_slice_get g x s.decl no_decl s.declared)) s.set;
}

inputs-sets : (g : List Decl) (kind : Kind) → AreInputs g kind → (x : ℕ) → IsInput kind x → IsEarlierSet g x
inputs-sets g OrSet h x i = absurd i
inputs-sets g GSet h x i = absurd i
inputs-sets g Counter h x i = absurd i
inputs-sets g MaxReg h x i = absurd i
inputs-sets g (Union a b) h x (inl e) = subst (IsEarlierSet g) (sym e) (earlier-set g a h.0)
inputs-sets g (Union a b) h x (inr e) = subst (IsEarlierSet g) (sym e) (earlier-set g b h.1)
inputs-sets g (Product a b) h x (inl e) = subst (IsEarlierSet g) (sym e) (earlier-set g a h.0)
inputs-sets g (Product a b) h x (inr e) = subst (IsEarlierSet g) (sym e) (earlier-set g b h.1)
inputs-sets g (Intersection a b) h x (inl e) = subst (IsEarlierSet g) (sym e) (earlier-set g a h.0)
inputs-sets g (Intersection a b) h x (inr e) = subst (IsEarlierSet g) (sym e) (earlier-set g b h.1)
inputs-sets g (Map a place ops) h x e = subst (IsEarlierSet g) (sym e) (earlier-set g a h)
inputs-sets g (Filter a place ops) h x e = subst (IsEarlierSet g) (sym e) (earlier-set g a h)
inputs-sets g (Fold a op place lift) h x e = subst (IsEarlierSet g) (sym e) (earlier-set g a h)

-- the name at a place is that of no later declaration
name-new : (g : List Decl) (d : Decl) → IsNext g d → (x : ℕ) → x < length g → name_at g x ≢ d.name
name-new g d next x within = next.new x (decl_at g x) (slice_get-get_or g x no_decl within)

pub may_follow : (g : List Decl) (d : Decl) → length g < graphs.variable_limit → IsNext g d → graphs.MayFollow g d
may_follow g d room next = record {
  new = name-new g d next;
  earlier = λ x i. (inputs-sets g d.kind next.inputs x i).earlier;
  sets = λ x i. (inputs-sets g d.kind next.inputs x i).set;
  kind = next.kind;
  narrow = next.narrow;
  room = room;
}

length-front : (g : List Decl) (y : ℕ) → y < length g → length g ≤ graphs.variable_limit → length (take y g) < graphs.variable_limit
length-front g y within few = omega (arith, within, few, length-take y g)

pub graph-accepted : (g : List Decl) → IsGraph g → graphs.IsGraph g
graph-accepted g good y within = may_follow (take y g) (decl_at g y) (length-front g y within good.few) (good.each y (decl_at g y) (slice_get-get_or g y no_decl within))
