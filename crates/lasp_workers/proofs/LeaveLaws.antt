-- Replicas of which none is left yet.
use Rattle.std.proofs.Common.{◌≡◌, ℕ, zero, suc, ◌+◌, ◌<◌, ◌≤◌, true, false, List, [], ◌∷◌, None, length, take, refl, sym, ap, subst, ◌∙◌}
use Rattle.std.specs.Prelude.{All, map, slice_set, slice_index_or}
use Rattle.std.proofs.lemmas.List.{take_more_set, take_all}
use Rattle.std.proofs.lemmas.List.Elements.{All-push, All-weaker}
use Rattle.lasp_workers.specs.declared.replicas.Replica.{Replica}
use Rattle.lasp_workers.specs.Replicas.{pair_of}

abbrev IsUnleft : {J : Type 0} → Replica J → Type 0
IsUnleft r = r.is_left ≡ false

-- the replica, not left and waiting for nothing
abbrev begun : {J : Type 0} → Replica J → Replica J
begun r = record { node = r.node; jobs = r.jobs; is_left = false; waits_for = None }

-- which it was isn't seen
pub same-pairs : {J : Type 0} (items : List (Replica J)) (i : ℕ) (d : Replica J) → map pair_of (slice_set items i (begun (slice_index_or items i d))) ≡ map pair_of items
same-pairs [] i d = refl
same-pairs (r ∷ items) zero d = refl
same-pairs (r ∷ items) (suc i) d = ap (λ l. pair_of r ∷ l) (same-pairs items i d)

pub unleft-more : {J : Type 0} (items : List (Replica J)) (i : ℕ) (d : Replica J) → i < length items → All IsUnleft (take i items) → All IsUnleft (take (i + 1) (slice_set items i (begun (slice_index_or items i d))))
unleft-more items i d low before =
    subst (λ (l : List (Replica _)). All IsUnleft l) (sym (take_more_set items i (begun (slice_index_or items i d)) low)) (All-push IsUnleft (take i items) (begun (slice_index_or items i d)) before refl)

pub unleft-all : {J : Type 0} (items : List (Replica J)) (i : ℕ) → length items ≤ i → All IsUnleft (take i items) → All IsUnleft items
unleft-all items i all before = subst (λ (l : List (Replica _)). All IsUnleft l) (take_all i items all) before

-- what is asked of replicas that are left is asked of none
pub unleft-asks : {J : Type 0} (P : Replica J → Type 0) (items : List (Replica J)) → All IsUnleft items → All (λ r. r.is_left ≡ true → P r) items
unleft-asks P items none = All-weaker IsUnleft (λ r. r.is_left ≡ true → P r) (λ r unleft left. absurd (let both : true ≡ false = sym left ∙ unleft in cc)) items none
