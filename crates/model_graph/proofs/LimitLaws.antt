-- The search for the first variable past the limit, in words.
use Rattle.std.proofs.Common.{◌≡◌, ℕ, zero, suc, ◌+◌, ◌≤◌, ◌<◌, ◌↔◌, Bool, true, false, if◌then◌else◌, nat_lt, List, [], ◌∷◌, Some, None, refl, ap, subst, ◌∙◌, arith}
use Rattle.std.proofs.lemmas.Bool.Decides.{nat_tests}
use Rattle.model_states.specs.Content.{Content, size_of, row_limit}
use Rattle.model_graph.specs.Evaluation.{content_at, first_large}
use Rattle.model_graph.specs.Limit.{AreWithinLimit, IsFirstLarge}

-- the content is within the limit
abbrev Fits : Content → Type 0
Fits s = size_of s ≤ row_limit

-- one content more in front of those that were searched
first-later : (s : Content) (ss : List Content) (x : ℕ) → Fits s → IsFirstLarge ss x → IsFirstLarge (s ∷ ss) (suc x)
first-later s ss x small first = record { large = first.large; before = before } where
  before : (y : ℕ) → y < suc x → Fits (content_at (s ∷ ss) y)
  before zero low = small
  before (suc y) low = first.before y (omega (arith, low))

first-found : (n : ℕ) (ss : List Content) (y : ℕ) → first_large n ss ≡ Some y → (x : ℕ) × (y ≡ n + x) × IsFirstLarge ss x
first-found n [] y e = absurd cc
first-found n (s ∷ ss) y e = choose (λ h. first-found (n + 1) ss y h) (nat_lt row_limit (size_of s)) refl e where
  choose : (first_large (n + 1) ss ≡ Some y → (x : ℕ) × (y ≡ (n + 1) + x) × IsFirstLarge ss x) → (b : Bool) → nat_lt row_limit (size_of s) ≡ b → (if b then Some n else first_large (n + 1) ss) ≡ Some y
      → (x : ℕ) × (y ≡ n + x) × IsFirstLarge (s ∷ ss) x
  choose later true t h =
      let same : n ≡ y = cc in
      (0, omega (arith, same), record { large = grind (arith, nat_tests, t); before = λ z low. absurd (omega (arith, low)) })
  choose later false t h =
      let found = later h in
      (suc found.0, omega (arith, found.1), first-later s ss found.0 (grind (arith, nat_tests, t)) found.2)

first-is : (n : ℕ) (ss : List Content) (x : ℕ) → IsFirstLarge ss x → first_large n ss ≡ Some (n + x)
first-is n [] zero first = absurd (let large = first.large in omega (arith, large))
first-is n [] (suc x) first = absurd (let large = first.large in omega (arith, large))
first-is n (s ∷ ss) zero first =
    let test : nat_lt row_limit (size_of s) ≡ true = grind (arith, nat_tests, first.large) in
    let here : n ≡ n + 0 = omega arith in
    ap (λ (b : Bool). if b then Some n else first_large (n + 1) ss) test ∙ ap (λ (m : ℕ). Some m) here
first-is n (s ∷ ss) (suc x) first =
    let small : Fits s = first.before 0 (omega arith) in
    let test : nat_lt row_limit (size_of s) ≡ false = grind (arith, nat_tests, small) in
    let there : (n + 1) + x ≡ n + suc x = omega arith in
    ap (λ (b : Bool). if b then Some n else first_large (n + 1) ss) test
    ∙ first-is (n + 1) ss x (record { large = first.large; before = λ y low. first.before (suc y) (omega (arith, low)) }) ∙ ap (λ (m : ℕ). Some m) there

none-found : (n : ℕ) (ss : List Content) → first_large n ss ≡ None → AreWithinLimit ss
none-found n [] e x = none x where
  none : (x : ℕ) → Fits (content_at [] x)
  none zero = omega arith
  none (suc x) = omega arith
none-found n (s ∷ ss) e x = choose (λ h y. none-found (n + 1) ss h y) (nat_lt row_limit (size_of s)) refl e x where
  choose : (first_large (n + 1) ss ≡ None → AreWithinLimit ss) → (b : Bool) → nat_lt row_limit (size_of s) ≡ b → (if b then Some n else first_large (n + 1) ss) ≡ None → AreWithinLimit (s ∷ ss)
  choose later true t h y = absurd cc
  choose later false t h zero = grind (arith, nat_tests, t)
  choose later false t h (suc y) = later h y

none-is : (n : ℕ) (ss : List Content) → AreWithinLimit ss → first_large n ss ≡ None
none-is n [] small = refl
none-is n (s ∷ ss) small =
    let here : Fits s = small 0 in
    let test : nat_lt row_limit (size_of s) ≡ false = grind (arith, nat_tests, here) in
    ap (λ (b : Bool). if b then Some n else first_large (n + 1) ss) test ∙ none-is (n + 1) ss (λ x. small (suc x))

pub large-words : (ss : List Content) (x : ℕ) → first_large 0 ss ≡ Some x ↔ IsFirstLarge ss x
large-words ss x = (there, back) where
  there : first_large 0 ss ≡ Some x → IsFirstLarge ss x
  there e = let found = first-found 0 ss x e in subst (λ (y : ℕ). IsFirstLarge ss y) (let same : found.0 ≡ x = omega (arith, found.1) in same) found.2

  back : IsFirstLarge ss x → first_large 0 ss ≡ Some x
  back first = first-is 0 ss x first ∙ ap (λ (y : ℕ). Some y) (let same : 0 + x ≡ x = omega arith in same)

pub small-words : (ss : List Content) → first_large 0 ss ≡ None ↔ AreWithinLimit ss
small-words ss = (none-found 0 ss, none-is 0 ss)
