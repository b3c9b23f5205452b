-- The steps of a node go on command by command.
use Rattle.std.proofs.Common.{◌≡◌, ℕ, zero, suc, ◌+◌, List, [], ◌∷◌, ◌++◌, length, take, drop, Some, refl, sym, ap, ◌∙◌, append_assoc, append-nil, arith}
use Rattle.std.specs.Prelude.{slice_get}
use Rattle.std.proofs.lemmas.List.{length-take-le, take-append-drop}
use Rattle.std.proofs.lemmas.Option.{same_Some, slice_get_within}
use Rattle.model_values.proofs.ListLaws.{drop-at}
use Rattle.model_world.specs.Command.{Command}
use Rattle.model_live.specs.Steps.{Step, step_at, steps}

steps-append : (p c : ℕ) (ks more : List Command) → steps p c (ks ++ more) ≡ steps p c ks ++ steps p (c + length ks) more
unfolding steps
steps-append p c [] more = ap (λ (n : ℕ). steps p n more) (let same : c ≡ c + 0 = omega arith in same)
steps-append p c (k ∷ ks) more =
    ap (λ (l : List Step). step_at p c k ++ l)
    (steps-append p (c + 1) ks more ∙ ap (λ (n : ℕ). steps p (c + 1) ks ++ steps p n more) (let same : c + 1 + length ks ≡ c + suc (length ks) = omega arith in same))
    ∙ sym (append_assoc (step_at p c k) (steps p (c + 1) ks) (steps p (c + suc (length ks)) more))

steps-cons : (p c : ℕ) (k : Command) (ks : List Command) → steps p c (k ∷ ks) ≡ step_at p c k ++ steps p (c + 1) ks
unfolding steps
steps-cons p c k ks = refl

take-next : {A : Type 0} (xs : List A) (i : ℕ) (x : A) → slice_get xs i ≡ Some x → take (i + 1) xs ≡ take i xs ++ x ∷ []
take-next [] i x at = absurd cc
take-next (y ∷ xs) zero x at = ap (λ z. z ∷ []) (same_Some y x at)
take-next (y ∷ xs) (suc i) x at = ap (λ (n : ℕ). take n (y ∷ xs)) (let same : suc i + 1 ≡ suc (i + 1) = omega arith in same) ∙ ap (λ zs. y ∷ zs) (take-next xs i x at)

-- the number of a command, and of the one behind it
number-of : (commands : List Command) (i : ℕ) (k : Command) → slice_get commands i ≡ Some k → 1 + length (take i commands) ≡ i + 1
number-of commands i k at = let low = slice_get_within commands i k at in omega (arith, length-take-le i commands (omega (arith, low)))

pub steps-next : (p : ℕ) (commands : List Command) (i : ℕ) (k : Command) → slice_get commands i ≡ Some k → steps p 1 (take (i + 1) commands) ≡ steps p 1 (take i commands) ++ step_at p (i + 1) k
unfolding steps
steps-next p commands i k at =
    ap (steps p 1) (take-next commands i k at) ∙ steps-append p 1 (take i commands) (k ∷ []) ∙ ap (λ (n : ℕ). steps p 1 (take i commands) ++ (step_at p n k ++ [])) (number-of commands i k at)
    ∙ ap (λ (l : List Step). steps p 1 (take i commands) ++ l) (append-nil (step_at p (i + 1) k))

pub steps-all : (p : ℕ) (commands : List Command) (i : ℕ) (k : Command) → slice_get commands i ≡ Some k
    → steps p 1 commands ≡ steps p 1 (take i commands) ++ step_at p (i + 1) k ++ steps p (i + 2) (drop (i + 1) commands)
steps-all p commands i k at =
    let n : ℕ = 1 + length (take i commands) in
    let first : List Step = steps p 1 (take i commands) in
    let rest : List Command = drop (i + 1) commands in
    ap (steps p 1) (sym (take-append-drop i commands) ∙ ap (λ (l : List Command). take i commands ++ l) (drop-at commands i k at)) ∙ steps-append p 1 (take i commands) (k ∷ rest)
    ∙ ap (λ (l : List Step). first ++ l) (steps-cons p n k rest) ∙ sym (append_assoc first (step_at p n k) (steps p (n + 1) rest))
    ∙ ap (λ (c : ℕ). first ++ step_at p c k ++ steps p (c + 1) rest) (number-of commands i k at)
    ∙ ap (λ (c : ℕ). first ++ step_at p (i + 1) k ++ steps p c rest) (let next : i + 1 + 1 ≡ i + 2 = omega arith in next)
