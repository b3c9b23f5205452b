-- The counts of what is read, and what they say of it.
use Rattle.std.proofs.Common.{◌≡◌, ◌∙◌, ap, sym, refl, subst, ℕ, ◌<◌, ◌+◌, false, ◌&&◌, nat_le, Result, Ok, Err, arith}
use Rattle.std.specs.Prelude.{if◌then◌else◌}
use Rattle.std.proofs.lemmas.Bool.Decides.{nat_tests}
use Rattle.model_values.specs.Value.{Val, pair}
use Rattle.model_values.specs.Size.{leaves, text_bytes}
use Rattle.model_values.specs.declared.value_why.ValueWhy.{ValueWhy}
use Rattle.model_values.specs.declared.value_why.ValueWhy.TheVariants as why
use Rattle.model_values.specs.Json.{paired, is_source_value, if_source_value}
use Rattle.lasp_value.specs.declared.size.Size.{Size}
use Rattle.lasp_value.specs.declared.refused.ValueRefused.{ValueRefused}
use Rattle.lasp_value.specs.Json.{IsRefused, refusal_of}
use Rattle.lasp_value.specs.Size.{counted, is_small, size_of, measured}

-- the counts of a pair
pub measured-first : (r q : Result Val ValueWhy) (e : ValueWhy) → Err e ≡ measured r → measured (paired r q) ≡ Err e
measured-first (Ok v) q e h = cc
measured-first (Err d) q e h = sym h

pub measured-second : (r q : Result Val ValueWhy) (s : Size) (e : ValueWhy) → Ok s ≡ measured r → Err e ≡ measured q → measured (paired r q) ≡ Err e
measured-second (Err d) q s e h k = cc
measured-second (Ok v) (Ok w) s e h k = cc
measured-second (Ok v) (Err d) s e h k = sym k

ok-Ok : (s t : Size) (r : Result Size ValueWhy) → Ok s ≡ r → r ≡ Ok t → s ≡ t
ok-Ok s t r e f = cc

pub measured-both : (r q : Result Val ValueWhy) (s t sum : Size) → Ok s ≡ measured r → Ok t ≡ measured q
    → sum.leaves ≡ counted (s.leaves + t.leaves) → sum.text_bytes ≡ counted (s.text_bytes + t.text_bytes) → measured (paired r q) ≡ Ok sum
measured-both (Err d) q s t sum h k l b = cc
measured-both (Ok v) (Err d) s t sum h k l b = cc
measured-both (Ok v) (Ok w) s t sum h k l b =
    let first = ok-Ok s (size_of v) (measured (Ok v)) h refl in
    let second = ok-Ok t (size_of w) (measured (Ok w)) k refl in
    let lefts : sum.leaves ≡ counted (leaves (pair v w)) = omega (arith, l, ap (λ (z : Size). z.leaves) first, ap (λ (z : Size). z.leaves) second) in
    let texts : sum.text_bytes ≡ counted (text_bytes (pair v w)) = omega (arith, b, ap (λ (z : Size). z.text_bytes) first, ap (λ (z : Size). z.text_bytes) second) in
    λ i. Ok (record { leaves = sym lefts i; text_bytes = sym texts i })

counted-nat_le : (n m : ℕ) → m < 1000 → nat_le (counted n) m ≡ nat_le n m
counted-nat_le n m h = grind (arith, nat_tests)

small-size : (s : Size) (v : Val) → s ≡ size_of v → is_small s ≡ is_source_value v
small-size s v e =
    ap is_small e ∙ ap (λ b. b && nat_le (counted (text_bytes v)) 256) (counted-nat_le (leaves v) 8 (omega arith))
    ∙ ap (λ b. nat_le (leaves v) 8 && b) (counted-nat_le (text_bytes v) 256 (omega arith))

-- what is read, by the counts
pub read-big : (s : Size) (r : Result Val ValueWhy) → Ok s ≡ measured r → is_small s ≡ false → if_source_value r ≡ Err why.TooBig
read-big s (Err e) h t = cc
read-big s (Ok v) h t = ap (λ b. if b then Ok v else Err why.TooBig) (sym (small-size s v (ok-Ok s (size_of v) (measured (Ok v)) h refl)) ∙ t)

pub read-refused : (e : ValueWhy) (r : Result Val ValueWhy) → Err e ≡ measured r → if_source_value r ≡ Err e
read-refused e (Ok v) h = cc
read-refused e (Err d) h = cc

-- what is refused so is refused by the definition
pub refused-is : (reason : ValueWhy) (e : ValueRefused) (r : Result Val ValueWhy) → e ≡ refusal_of reason → r ≡ Err reason → IsRefused e r
refused-is reason e r h k = subst (λ z. IsRefused z r) (sym h) (by reason k) where
  by : (w : ValueWhy) → r ≡ Err w → IsRefused (refusal_of w) r
  by why.NotAValue f = f
  by why.NumberRefused f = f
  by why.TooBig f = f
