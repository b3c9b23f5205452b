-- Graphs that grow by a declaration, and the inputs of a graph.
use Rattle.std.proofs.Common.{◌≡◌, ℕ, ◌≤◌, ◌<◌, ◌⊎◌, inl, inr, IsTrue, List, [], ◌∷◌, ◌++◌, length, take, refl, sym, ap, subst, ◌∙◌, arith}
use Rattle.std.proofs.lemmas.List.{get_or-take}
use Rattle.model_graph.specs.Graph.{Decl, no_decl, decl_at, kind_at, is_set, IsInput}
use Rattle.model_graph.specs.Lawful.{MayFollow, IsGraph}
use Rattle.model_graph.proofs.PlaceLaws.{at-append, at-past, at-last, length-append, below-or-not}
use Rattle.model_graph.proofs.EvalLaws.{graph-earlier}
use Rattle.model_journal.specs.Entry.{Act, Update, Deliver, Bind, Extend}
use Rattle.model_journal.specs.Journal.{graph_after}
use Rattle.model_journal.proofs.PlaceLaws.{take-front, take-whole}

pub graph-push : (g : List Decl) (d : Decl) → IsGraph g → MayFollow g d → IsGraph (g ++ d ∷ [])
graph-push g d ok may y low = choose (below-or-not y (length g)) where
  follows : (h : List Decl) (c : Decl) → take y (g ++ d ∷ []) ≡ h → decl_at (g ++ d ∷ []) y ≡ c → MayFollow h c → MayFollow (take y (g ++ d ∷ [])) (decl_at (g ++ d ∷ []) y)
  follows h c e f m = subst (λ (a : List Decl). MayFollow a (decl_at (g ++ d ∷ []) y)) (sym e) (subst (λ (a : Decl). MayFollow h a) (sym f) m)

  choose : (y < length g) ⊎ (length g ≤ y) → MayFollow (take y (g ++ d ∷ [])) (decl_at (g ++ d ∷ []) y)
  choose (inl h) = follows (take y g) (decl_at g y) (take-front g (d ∷ []) y (omega (arith, h))) (at-append g (d ∷ []) y no_decl h) (ok y h)
  choose (inr h) =
      let here : y ≡ length g = omega (arith, h, low, length-append g (d ∷ [])) in
      follows g d (take-front g (d ∷ []) y (omega (arith, here)) ∙ take-whole g y h) (ap (λ (i : ℕ). decl_at (g ++ d ∷ []) i) here ∙ at-last g d no_decl) may

-- an input is declared
pub input-declared : (g : List Decl) → IsGraph g → (y x : ℕ) → IsInput (kind_at g y) x → x < length g
input-declared g ok y x i = choose (below-or-not y (length g)) where
  choose : (y < length g) ⊎ (length g ≤ y) → x < length g
  choose (inl h) = let earlier = graph-earlier g ok y x i in omega (arith, h, earlier)
  choose (inr h) = absurd (subst (λ (d : Decl). IsInput d.kind x) (at-past g y no_decl h) i)

-- and a set
pub input-set : (g : List Decl) → IsGraph g → (y x : ℕ) → IsInput (kind_at g y) x → IsTrue (is_set (kind_at g x))
input-set g ok y x i = choose (below-or-not y (length g)) where
  choose : (y < length g) ⊎ (length g ≤ y) → IsTrue (is_set (kind_at g x))
  choose (inl h) = subst (λ (d : Decl). IsTrue (is_set d.kind)) (get_or-take y g x no_decl (graph-earlier g ok y x i)) ((ok y h).sets x i)
  choose (inr h) = absurd (subst (λ (d : Decl). IsInput d.kind x) (at-past g y no_decl h) i)

pub graph-keeps : (g : List Decl) (act : Act) (y : ℕ) → y < length g → decl_at (graph_after g act) y ≡ decl_at g y
graph-keeps g (Update z op) y h = refl
graph-keeps g (Deliver i m) y h = refl
graph-keeps g (Bind z n) y h = refl
graph-keeps g (Extend d) y h = at-append g (d ∷ []) y no_decl h

pub graph-longer : (g : List Decl) (act : Act) → length g ≤ length (graph_after g act)
graph-longer g (Update z op) = omega arith
graph-longer g (Deliver i m) = omega arith
graph-longer g (Bind z n) = omega arith
graph-longer g (Extend d) = omega (arith, length-append g (d ∷ []))
