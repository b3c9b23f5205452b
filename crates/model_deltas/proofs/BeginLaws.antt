-- Messages of one graph: whose sources begin those of whom, and what is told before all.
use Rattle.std.proofs.Common.{◌≡◌, ℕ, zero, suc, List, [], ◌∷◌, ◌++◌, map, refl, sym, ap, ◌∙◌, append-nil, arith}
use Rattle.model_states.specs.Counts.{zeros}
use Rattle.model_states.specs.Content.{IsContentAtMost}
use Rattle.model_states.proofs.CountLaws.{count_at-zeros, length-zeros}
use Rattle.model_states.proofs.ContentLaws.{join-nothing}
use Rattle.model_graph.specs.Graph.{Decl, kind_at}
use Rattle.model_graph.specs.Evaluation.{least_of}
use Rattle.model_graph.proofs.LeastLaws.{least_of-ordered}
use Rattle.model_graph.specs.Message.{Sent, sent_at}
use Rattle.model_world.specs.Delta as known
use Rattle.model_world.specs.Holds.{Carries}
use Rattle.model_deltas.specs.Before.{AreSourcesBefore, AreSourcesAlike}
use Rattle.model_deltas.specs.World.{nothing_told}

abbrev pub decls_of : List Sent → List Decl
decls_of sources = map (λ s. s.decl) sources

-- the sources of the second are the first ones of the first, or the same
abbrev pub BeginsBy : List Sent → List Sent → Type 0
BeginsBy ss ts = (more : List Decl) × (decls_of ts ++ more ≡ decls_of ss)

pub head-of : {A : Type 0} (x y : A) (xs ys : List A) → x ∷ xs ≡ y ∷ ys → x ≡ y
head-of x y xs ys e = cc

pub tail-of : {A : Type 0} (x y : A) (xs ys : List A) → x ∷ xs ≡ y ∷ ys → xs ≡ ys
tail-of x y xs ys e = cc

-- sources that begin one list
pub alike-begun : (ss ts : List Sent) (more others : List Decl) → decls_of ss ++ more ≡ decls_of ts ++ others → AreSourcesAlike ss ts
alike-begun [] ts more others e = tt
alike-begun (s ∷ ss) [] more others e = tt
alike-begun (s ∷ ss) (t ∷ ts) more others e =
    (head-of s.decl t.decl (decls_of ss ++ more) (decls_of ts ++ others) e, alike-begun ss ts more others (tail-of s.decl t.decl (decls_of ss ++ more) (decls_of ts ++ others) e))

pub alike-from : (ss ts : List Sent) → BeginsBy ss ts → AreSourcesAlike ss ts
alike-from ss ts h = alike-begun ss ts [] h.0 (append-nil (decls_of ss) ∙ sym h.1)

pub before-from : (bs ts : List Sent) → BeginsBy ts bs → ((j : ℕ) → IsContentAtMost (sent_at bs j) (sent_at ts j)) → AreSourcesBefore bs ts
before-from [] ts h low = tt
before-from (b ∷ bs) [] h low = absurd (none b.decl (decls_of bs ++ h.0) h.1) where
  none : (d : Decl) (ds : List Decl) → d ∷ ds ≡ [] → ⊥
  none d ds e = cc
before-from (b ∷ bs) (t ∷ ts) h low =
    (head-of b.decl t.decl (decls_of bs ++ h.0) (decls_of ts) h.1, low 0, before-from bs ts (h.0, tail-of b.decl t.decl (decls_of bs ++ h.0) (decls_of ts) h.1) (λ j. low (suc j)))

-- ---- before a node told anything

first-zeros : (all : List (List known.Delta)) (nodes : ℕ) → known.first_deltas all (zeros nodes) ≡ []
first-zeros [] nodes = refl
first-zeros (deltas ∷ all) zero = refl
first-zeros (deltas ∷ all) (suc nodes) = first-zeros all nodes

pub nothing-carries : (g : List Decl) (nodes : ℕ) (all : List (List known.Delta)) → Carries g nodes all (nothing_told nodes)
nothing-carries g nodes all = record {
  narrow = omega (arith, length-zeros nodes);
  few = omega arith;
  made = λ q. omega (arith, count_at-zeros nodes q);
  knows = λ x low source.
      join-nothing (least_of nodes (kind_at g x)) (least_of-ordered nodes (kind_at g x))
      ∙ ap (λ (ds : List known.Delta). known.join_all (least_of nodes (kind_at g x)) (known.brought_to x ds)) (sym (first-zeros all nodes));
}
