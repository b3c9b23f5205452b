-- A pass over rows that looks for the values that came or went.
use Rattle.std.proofs.Common.{◌≡◌, ℕ, ◌+◌, ◌≤◌, ◌<◌, ◌==◌, Bool, true, false, ◌||◌, ℤ, map, fold, if◌then◌else◌, IsTrue, length, List, [], ◌∷◌, Option, Some, ◌↔◌, refl, sym, ap, subst, ◌∙◌, arith}
use Rattle.std.proofs.lemmas.Bool.Decides.{nat_tests}
use Rattle.model_values.specs.Value.{Val}
use Rattle.model_values.specs.Row.{Row}
use Rattle.model_values.specs.Size.{IsSized}
use Rattle.model_sets.specs.Rows.{level}
use Rattle.model_sets.specs.Values.{held, IsHeld}
use Rattle.model_sets.proofs.ValueLaws.{held-small}
use Rattle.model_sets.specs.Loops.{is_last, values_after}
use Rattle.model_sets.proofs.RowLaws.{own_mark}
use Rattle.lasp_fns.specs.Steps.{one_more}
use Rattle.lasp_setops.specs.Fold.{AreSized}
use Rattle.lasp_setops.specs.Turns.{values_left, turns, turned, arrived, IsAlong}

pub sized-first : (rows rest : List Row) (r : Row) (v : Val) → rows ≡ r ∷ rest → v ≡ r.0.0 → AreSized rows → IsSized v
sized-first rows rest r v at is h = subst IsSized (sym is) (subst AreSized at h r.0.0 r.0.1 (omega (arith, own_mark r, some r.1))) where
  some : (d : Bool) → 0 < level d
  some true = omega arith
  some false = omega arith

pub sized-rest : (rows rest : List Row) (r : Row) → rows ≡ r ∷ rest → AreSized rows → AreSized rest
sized-rest rows rest r at h v t has = subst AreSized at h v t (omega (arith, has))

-- what has a value shows it, or not
pub shows : (b : Bool) (s : List Val) (v : Val) → (IsTrue b ↔ IsHeld s v) → (held s v == 1) ≡ b
shows true s v h = let one : held s v ≡ 1 = h.0 refl in grind (arith, nat_tests, one)
shows false s v h = choose (held s v == 1) refl where
  choose : (b : Bool) → (held s v == 1) ≡ b → (held s v == 1) ≡ false
  choose false e = e
  choose true e = let one : held s v ≡ 1 = grind (arith, nat_tests, e) in absurd (wrong (h.1 one)) where
    wrong : IsTrue false → ⊥
    wrong w = cc

alike : (m n : ℕ) (b c : Bool) → m ≤ 1 → n ≤ 1 → (m == 1) ≡ b → (n == 1) ≡ c → b ≡ c → (m == n) ≡ true
alike m n b c p q e f g = let same : (m == 1) ≡ (n == 1) = e ∙ g ∙ sym f in grind (arith, nat_tests, p, q, same)

-- a row of the value that was looked at last
pub skip-same : (s t : List Val) (all : List (Val × Bool)) (last : Option Val) (rows rest : List Row) (r : Row) (v : Val) (same : Bool) → all ≡ turns s t (values_left last rows) → rows ≡ r ∷ rest → v ≡ r.0.0
    → same ≡ is_last last v → same ≡ true → all ≡ turns s t (values_left last rest)
skip-same s t all last rows rest r v same so_far at is test yes_it =
    so_far ∙ ap (λ (u : List Row). turns s t (values_left last u)) at ∙ ap (λ b. turns s t (if b then values_left last rest else r.0.0 ∷ values_left (Some r.0.0) rest)) (ap (is_last last) (sym is) ∙ sym test ∙ yes_it)

-- a value that both sets show, or neither
pub skip-still : (s t : List Val) (all : List (Val × Bool)) (last : Option Val) (rows rest : List Row) (r : Row) (v : Val) (same was came : Bool) → all ≡ turns s t (values_left last rows) → rows ≡ r ∷ rest → v ≡ r.0.0
    → same ≡ is_last last v → same ≡ false → (IsTrue was ↔ IsHeld s v) → (IsTrue came ↔ IsHeld t v) → was ≡ came → all ≡ turns s t (values_left (Some v) rest)
skip-still s t all last rows rest r v same was came so_far at is test not_it before after eq =
    so_far ∙ ap (λ (u : List Row). turns s t (values_left last u)) at ∙ ap (λ b. turns s t (if b then values_left last rest else r.0.0 ∷ values_left (Some r.0.0) rest)) (ap (is_last last) (sym is) ∙ sym test ∙ not_it)
    ∙ ap (λ (u : Val). turns s t (u ∷ values_left (Some u) rest)) (sym is)
    ∙ ap (λ b. if b then turns s t (values_left (Some v) rest) else (v, held t v == 1) ∷ turns s t (values_left (Some v) rest)) (alike (held s v) (held t v) was came (held-small s v) (held-small t v) (shows was s v before) (shows came t v after) eq)

-- a value costs one call
pub ticks-next : (n m bound : ℕ) (left rest : List (Val × Bool)) (t : Val × Bool) → left ≡ t ∷ rest → m ≡ one_more n → n + length left ≤ bound → m + length rest ≤ bound
ticks-next n m bound left rest t at once h = let long = ap length at in omega (arith, long, once, h)

-- ---- a pass over the visible values

-- a row that shows none, or the one before
pub shown-skip : (last : Option Val) (rows rest : List Row) (r : Row) (passed : Bool) → rows ≡ r ∷ rest → passed ≡ (r.1 || is_last last r.0.0) → passed ≡ true → map arrived (values_after last rest) ≡ map arrived (values_after last rows)
shown-skip last rows rest r passed at is yes_it =
    sym (ap (λ (u : List Row). map arrived (values_after last u)) at ∙ ap (λ b. map arrived (if b then values_after last rest else r.0.0 ∷ values_after (Some r.0.0) rest)) (sym is ∙ yes_it))

-- a row that shows the next one
pub shown-next : (last : Option Val) (rows rest : List Row) (r : Row) (v : Val) (passed : Bool) → rows ≡ r ∷ rest → v ≡ r.0.0 → passed ≡ (r.1 || is_last last r.0.0) → passed ≡ false
    → map arrived (values_after last rows) ≡ (v, true) ∷ map arrived (values_after (Some v) rest)
shown-next last rows rest r v passed at value is no_it =
    ap (λ (u : List Row). map arrived (values_after last u)) at ∙ ap (λ b. map arrived (if b then values_after last rest else r.0.0 ∷ values_after (Some r.0.0) rest)) (sym is ∙ no_it)
    ∙ ap (λ (u : Val). (u, true) ∷ map arrived (values_after (Some u) rest)) (sym value)

-- where each came, the corrections are the fold
pub arrived-fold : (combined : ℤ → ℤ → ℤ) (undone : ℤ → ℤ) (lift : Val → ℤ) (a : ℤ) (vs : List Val) → fold (turned combined undone lift) a (map arrived vs) ≡ fold (λ b v. combined b (lift v)) a vs
arrived-fold combined undone lift a [] = refl
arrived-fold combined undone lift a (v ∷ vs) = arrived-fold combined undone lift (combined a (lift v)) vs

pub along-skip : (member : ℤ → Bool) (size : ℤ → ℕ) (step : ℤ → Val × Bool → ℤ) (total whole : ℤ) (left next : List (Val × Bool)) → IsAlong member size step total left whole → next ≡ left → IsAlong member size step total next whole
along-skip member size step total whole left next h same = subst (λ (ts : List (Val × Bool)). IsAlong member size step total ts whole) (sym same) h
