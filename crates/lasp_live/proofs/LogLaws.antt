-- Who has ended, node by node.
use Rattle.std.proofs.Common.{◌≡◌, ℕ, zero, suc, ◌+◌, ◌<◌, ◌≤◌, ◌==◌, ◌⊎◌, inl, inr, Bool, true, List, [], ◌∷◌, ◌++◌, length, refl, sym, ap, subst, ◌∙◌, arith}
use Rattle.model_graph.proofs.PlaceLaws.{below-or-not}
use Rattle.lasp_live.specs.Fed.{has_ended}

-- one more has
pub ended-next : (ended : List Bool) (n : ℕ) → ((q : ℕ) → q < n → has_ended ended q ≡ true) → has_ended ended n ≡ true → (q : ℕ) → q < n + 1 → has_ended ended q ≡ true
ended-next ended n before here q low = choose (below-or-not q n) where
  choose : (q < n) ⊎ (n ≤ q) → has_ended ended q ≡ true
  choose (inl less) = before q less
  choose (inr past) = subst (λ (p : ℕ). has_ended ended p ≡ true) (let same : n ≡ q = omega (arith, past, low) in same) here

-- all have
pub ended-all : (ended : List Bool) (n : ℕ) → length ended ≤ n → ((q : ℕ) → q < n → has_ended ended q ≡ true) → (q : ℕ) → q < length ended → has_ended ended q ≡ true
ended-all ended n past before q low = before q (omega (arith, past, low))

-- ---- of each node, whether something is to come

index-front : (ended : List Bool) (b : Bool) (q : ℕ) → q < length ended → has_ended (ended ++ b ∷ []) q ≡ has_ended ended q
index-front [] b q low = absurd (omega (arith, low))
index-front (x ∷ ended) b zero low = refl
index-front (x ∷ ended) b (suc q) low = index-front ended b q (omega (arith, low))

index-last : (ended : List Bool) (b : Bool) → has_ended (ended ++ b ∷ []) (length ended) ≡ b
index-last [] b = refl
index-last (x ∷ ended) b = index-last ended b

-- one more node
pub come-next : (ended : List Bool) (n me : ℕ) (b : Bool) → length ended ≡ n → ((q : ℕ) → q < n → has_ended ended q ≡ (q == me)) → b ≡ (n == me) → (q : ℕ) → q < n + 1 → has_ended (ended ++ b ∷ []) q ≡ (q == me)
come-next ended n me b many before here q low = choose (below-or-not q n) where
  choose : (q < n) ⊎ (n ≤ q) → has_ended (ended ++ b ∷ []) q ≡ (q == me)
  choose (inl less) = index-front ended b q (omega (arith, less, many)) ∙ before q less
  choose (inr past) =
      let same : length ended ≡ q = omega (arith, past, low, many) in
      ap (has_ended (ended ++ b ∷ [])) (sym same) ∙ index-last ended b ∙ here ∙ ap (λ (k : ℕ). k == me) (sym many ∙ same)

pub ruleset endings = (ended-next, ended-all)
