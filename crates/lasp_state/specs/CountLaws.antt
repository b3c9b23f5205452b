-- The laws of counts: each by what the nodes counted, and equality last.
use Rattle.std.proofs.Common.{◌≡◌, ℕ, zero, suc, ◌*◌, ◌≤◌, ◌<◌, max, List, [], ◌∷◌, length, refl, sym, ap, ◌∙◌, arith, sum, take, drop, ◌++◌, subst}
use Rattle.std.proofs.lemmas.List.{take_at}
use Rattle.std.proofs.lemmas.List.Sums.{sum_by-cons}
use Rattle.model_states.specs.Counts.{count_max, count_at, zeros}
use Rattle.model_states.proofs.CountLaws.{count_at-zeros, length-zeros}
use Rattle.lasp_state.specs.Counts.{AreCounts, larger, AreAtMost, HaveSameNodes}

pub count_at-larger : (s t : List ℕ) (node : ℕ) → HaveSameNodes s t → count_at (larger s t) node ≡ max (count_at s node) (count_at t node)
count_at-larger [] [] node e = omega arith
count_at-larger [] (d ∷ t) node e = absurd (omega (arith, e))
count_at-larger (c ∷ s) [] node e = absurd (omega (arith, e))
count_at-larger (c ∷ s) (d ∷ t) zero e = refl
count_at-larger (c ∷ s) (d ∷ t) (suc node) e = count_at-larger s t node (omega (arith, e))

pub length-larger : (s t : List ℕ) → HaveSameNodes s t → length (larger s t) ≡ length s
length-larger [] t e = refl
length-larger (c ∷ s) [] e = refl
length-larger (c ∷ s) (d ∷ t) e = ap suc (length-larger s t (omega (arith, e)))

pub same_from_counts : (s t : List ℕ) → HaveSameNodes s t → ((node : ℕ) → count_at s node ≡ count_at t node) → s ≡ t
same_from_counts [] [] e same = refl
same_from_counts [] (d ∷ t) e same = absurd (omega (arith, e))
same_from_counts (c ∷ s) [] e same = absurd (omega (arith, e))
same_from_counts (c ∷ s) (d ∷ t) e same = λ i. same 0 i ∷ same_from_counts s t (omega (arith, e)) (λ node. same (suc node)) i

pub counts-zeros : (nodes : ℕ) → nodes < 256 → AreCounts (zeros nodes)
counts-zeros nodes h = record { few = omega (arith, h, length-zeros nodes); small = λ node. omega (arith, count_at-zeros nodes node) }

-- ---- shapes and states

pub shape-larger : (s t : List ℕ) → HaveSameNodes s t → HaveSameNodes s (larger s t)
shape-larger s t e = sym (length-larger s t e)

pub shape-zeros : (s : List ℕ) → HaveSameNodes s (zeros (length s))
shape-zeros s = sym (length-zeros (length s))

pub counts-larger : (s t : List ℕ) → AreCounts s → AreCounts t → HaveSameNodes s t → AreCounts (larger s t)
counts-larger s t a b e = record { few = omega (arith, a.few, length-larger s t e); small = λ node. omega (arith, count_at-larger s t node e, a.small node, b.small node) }

-- ---- the order

pub at_most-antisymmetric : (s t : List ℕ) → HaveSameNodes s t → AreAtMost s t → AreAtMost t s → s ≡ t
at_most-antisymmetric s t e a b = same_from_counts s t e (λ node. omega (arith, a node, b node))

-- ---- the join

pub larger-idempotent : (s : List ℕ) → larger s s ≡ s
larger-idempotent s = same_from_counts (larger s s) s (length-larger s s refl) (λ node. omega (arith, count_at-larger s s node refl))

pub larger-commutative : (s t : List ℕ) → HaveSameNodes s t → larger s t ≡ larger t s
larger-commutative s t e =
    same_from_counts (larger s t) (larger t s) (omega (arith, e, length-larger s t e, length-larger t s (sym e)))
    (λ node. omega (arith, count_at-larger s t node e, count_at-larger t s node (sym e)))

pub larger-associative : (s t u : List ℕ) → HaveSameNodes s t → HaveSameNodes t u → larger (larger s t) u ≡ larger s (larger t u)
larger-associative s t u e f =
    let left : HaveSameNodes (larger s t) u = length-larger s t e ∙ e ∙ f in
    let right : HaveSameNodes s (larger t u) = e ∙ sym (length-larger t u f) in
    same_from_counts (larger (larger s t) u) (larger s (larger t u)) (length-larger (larger s t) u left ∙ length-larger s t e ∙ sym (length-larger s (larger t u) right))
    (λ node. omega (arith, count_at-larger (larger s t) u node left, count_at-larger s t node e, count_at-larger s (larger t u) node right, count_at-larger t u node f))

pub larger-left : (s t : List ℕ) → HaveSameNodes s t → AreAtMost s (larger s t)
larger-left s t e node = omega (arith, count_at-larger s t node e)

pub larger-right : (s t : List ℕ) → HaveSameNodes s t → AreAtMost t (larger s t)
larger-right s t e node = omega (arith, count_at-larger s t node e)

pub larger-least : (s t u : List ℕ) → HaveSameNodes s t → AreAtMost s u → AreAtMost t u → AreAtMost (larger s t) u
larger-least s t u e a b node = omega (arith, count_at-larger s t node e, a node, b node)

pub zeros-lowest : (nodes : ℕ) (t : List ℕ) → AreAtMost (zeros nodes) t
zeros-lowest nodes t node = omega (arith, count_at-zeros nodes node)

-- ---- sums, and counts written back

pub sum-small : (s : List ℕ) → ((node : ℕ) → count_at s node ≤ count_max) → sum s ≤ length s * count_max
sum-small [] h = omega arith
sum-small (c ∷ s) h = omega (arith, sum_by-cons (λ x. x) c s, h 0, sum-small s (λ node. h (suc node)))

-- counts that were changed in place are those that stand where the old ones stood
pub counts-written : (len : ℕ) (old new : List ℕ) → len ≡ length old → HaveSameNodes new old → AreCounts new → AreCounts (take len (new ++ drop (length new) old))
counts-written len old new e same h = subst AreCounts (sym (take_at new (drop (length new) old) len (same ∙ sym e))) h
