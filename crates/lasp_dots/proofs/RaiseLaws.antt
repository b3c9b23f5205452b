-- A turn of the loop that raises counts.
use Rattle.std.proofs.Common.{◌≡◌, ℕ, zero, suc, ◌+◌, ◌≤◌, ◌<◌, max, ◌⊎◌, inl, inr, Bool, true, false, ◌==◌, nat_lt, if◌then◌else◌, List, [], ◌∷◌, length, slice_set, refl, sym, ap, ◌∙◌, arith}
use Rattle.std.proofs.lemmas.Bool.Decides.{nat_tests}
use Rattle.std.proofs.lemmas.List.{length-set}
use Rattle.model_states.specs.Counts.{count_at, larger}
use Rattle.model_states.proofs.CountLaws.{count_at-set, count_at-larger, length-larger, same_from_counts}

-- the first i counts are the larger ones, the others are as they were
pub record IsRaised (i : ℕ) (old others counts : List ℕ) : Type 0 where
  pub wide : length counts ≡ length old
  pub done : (q : ℕ) → q < i → count_at counts q ≡ max (count_at old q) (count_at others q)
  pub left : (q : ℕ) → i ≤ q → count_at counts q ≡ count_at old q

below-or-not : (q i : ℕ) → (q < i) ⊎ (i ≤ q)
below-or-not q i = choose (nat_lt q i) refl where
  choose : (b : Bool) → nat_lt q i ≡ b → (q < i) ⊎ (i ≤ q)
  choose true e = inl (grind (arith, nat_tests, e))
  choose false e = inr (grind (arith, nat_tests, e))

past : (counts : List ℕ) (q : ℕ) → length counts ≤ q → count_at counts q ≡ 0
past [] q high = refl
past (c ∷ counts) zero high = absurd (omega (arith, high))
past (c ∷ counts) (suc q) high = past counts q (omega (arith, high))

pub raised-none : (old others : List ℕ) → IsRaised 0 old others old
raised-none old others = record { wide = refl; done = λ q low. absurd (omega (arith, low)); left = λ q _. refl }

pub raised-next : (i n : ℕ) (old others counts : List ℕ) → length old ≡ length others → i < length others → n ≡ max (count_at counts i) (count_at others i) → IsRaised i old others counts
    → IsRaised (i + 1) old others (slice_set counts i n)
raised-next i n old others counts same low e h = record {
  wide = length-set counts i n ∙ h.wide;
  done = done;
  left = λ q high. at q ∙ apart q (omega (arith, high)) ∙ h.left q (omega (arith, high));
} where
  at : (q : ℕ) → count_at (slice_set counts i n) q ≡ (if q == i then n else count_at counts q)
  at q = count_at-set counts i n q (omega (arith, low, same, h.wide))

  apart : (q : ℕ) → i < q → (if q == i then n else count_at counts q) ≡ count_at counts q
  apart q more = ap (λ (b : Bool). if b then n else count_at counts q) (let no_match : (q == i) ≡ false = grind (arith, nat_tests, more) in no_match)

  done : (q : ℕ) → q < i + 1 → count_at (slice_set counts i n) q ≡ max (count_at old q) (count_at others q)
  done q less = choose (q == i) refl where
    choose : (b : Bool) → (q == i) ≡ b → count_at (slice_set counts i n) q ≡ max (count_at old q) (count_at others q)
    choose true f =
        let here : q ≡ i = grind (arith, nat_tests, f) in
        at q ∙ ap (λ (b : Bool). if b then n else count_at counts q) f ∙ e ∙ (λ k. max (count_at counts (sym here k)) (count_at others (sym here k)))
        ∙ ap (λ (m : ℕ). max m (count_at others q)) (h.left q (omega (arith, here)))
    choose false f = at q ∙ ap (λ (b : Bool). if b then n else count_at counts q) f ∙ h.done q (let other : q ≡ i → ⊥ = grind (arith, nat_tests, f) in omega (arith, less, other))

pub raised-all : (i : ℕ) (old others counts : List ℕ) → length old ≡ length others → length others ≤ i → IsRaised i old others counts → counts ≡ larger old others
raised-all i old others counts same all h =
    same_from_counts counts (larger old others) (omega (arith, h.wide, length-larger old others, same)) (λ q. at q (below-or-not q i)) where
      at : (q : ℕ) → (q < i) ⊎ (i ≤ q) → count_at counts q ≡ count_at (larger old others) q
      at q (inl low) = omega (arith, h.done q low, count_at-larger old others q)
      at q (inr high) = omega (arith, h.left q high, count_at-larger old others q, past others q (omega (arith, all, high)))
