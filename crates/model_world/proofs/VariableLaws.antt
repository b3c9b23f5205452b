-- Of which variables something is known, and that more declarations change none of it.
use Rattle.std.proofs.Common.{◌≡◌, ℕ, ◌<◌, Bool, true, false, ◌==◌, IsFalse, List, [], ◌∷◌, ◌++◌, length, refl, ap, subst, arith}
use Rattle.model_states.specs.Content.{Content, IsOrdered}
use Rattle.model_graph.specs.Graph.{Kind, Decl, is_source, no_decl, kind_at}
use Rattle.model_graph.specs.Evaluation.{least_of}
use Rattle.model_graph.proofs.PlaceLaws.{at-append, equal-numbers}
use Rattle.model_graph.proofs.LeastLaws.{least_of-ordered}
use Rattle.model_world.specs.Delta.{Delta, first_deltas, brought_to, join_all, known}
use Rattle.model_world.specs.Known.{Each, IsOfSource}
use Rattle.model_world.proofs.MeasureLaws.{ordered-all, each-first, each-weaker, nothing-brought}

pub known-ordered : (g : List Decl) (nodes : ℕ) (all : List (List Delta)) (cs : List ℕ) (x : ℕ) → IsOrdered (known g nodes all cs x)
known-ordered g nodes all cs x = ordered-all (least_of nodes (kind_at g x)) (brought_to x (first_deltas all cs)) (least_of-ordered nodes (kind_at g x))

-- where no delta is of the variable, it is known to be least
pub known-untouched : (g : List Decl) (nodes : ℕ) (all : List (List Delta)) (cs : List ℕ) (x : ℕ) → Each (λ d. (d.var == x) ≡ false) all → known g nodes all cs x ≡ least_of nodes (kind_at g x)
known-untouched g nodes all cs x h = ap (λ (ts : List Content). join_all (least_of nodes (kind_at g x)) ts) (nothing-brought x (first_deltas all cs) (each-first (λ d. (d.var == x) ≡ false) all cs h))

pub other : (x y : ℕ) → (x ≡ y → ⊥) → (x == y) ≡ false
other x y n = choose (x == y) refl where
  choose : (b : Bool) → (x == y) ≡ b → (x == y) ≡ false
  choose true e = absurd (n (equal-numbers x y e))
  choose false e = e

-- of a derived variable nothing is known
pub known-derived : (g : List Decl) (nodes : ℕ) (all : List (List Delta)) (cs : List ℕ) (x : ℕ) → Each (IsOfSource g) all → IsFalse (is_source (kind_at g x)) → known g nodes all cs x ≡ least_of nodes (kind_at g x)
known-derived g nodes all cs x sources derived =
    known-untouched g nodes all cs x (each-weaker (IsOfSource g) (λ d. (d.var == x) ≡ false) (λ d h. other d.var x (λ e.
    let yes : is_source (kind_at g x) ≡ true = subst (λ (y : ℕ). is_source (kind_at g y) ≡ true) e h.1 in
    let no-source : is_source (kind_at g x) ≡ false = derived in
    absurd cc)) all sources)

-- and none of one that is declared later
pub known-later : (g : List Decl) (d : Decl) (nodes : ℕ) (all : List (List Delta)) (cs : List ℕ) → Each (IsOfSource g) all → known (g ++ d ∷ []) nodes all cs (length g) ≡ least_of nodes (kind_at (g ++ d ∷ []) (length g))
known-later g d nodes all cs sources =
    known-untouched (g ++ d ∷ []) nodes all cs (length g) (each-weaker (IsOfSource g) (λ c. (c.var == length g) ≡ false) (λ c h. other c.var (length g) (λ e. omega (arith, e, h.0))) all sources)

-- a longer graph has the earlier kinds
pub kind-append : (g more : List Decl) (x : ℕ) → x < length g → kind_at (g ++ more) x ≡ kind_at g x
kind-append g more x h = ap (λ (d : Decl). d.kind) (at-append g more x no_decl h)

pub known-append : (g : List Decl) (d : Decl) (nodes : ℕ) (all : List (List Delta)) (cs : List ℕ) (x : ℕ) → x < length g → known (g ++ d ∷ []) nodes all cs x ≡ known g nodes all cs x
known-append g d nodes all cs x h = ap (λ (k : Kind). join_all (least_of nodes k) (brought_to x (first_deltas all cs))) (kind-append g (d ∷ []) x h)
