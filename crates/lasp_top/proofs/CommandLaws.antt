-- The script grows by one command at a time.
use Rattle.std.proofs.Common.{◌≡◌, ℕ, suc, ◌+◌, ◌++◌, List, [], refl, sym, ap, subst, ◌∙◌, append_assoc, arith}
use Rattle.model_program.specs.Generator.{next_number, number_at, listed, commands}

one-more : (j : ℕ) → j + 1 ≡ suc j
one-more j = omega (arith)

pub number-next : (seed j : ℕ) → number_at seed (j + 1) ≡ next_number (number_at seed j)
number-next seed j = ap (number_at seed) (one-more j)

pub no-commands : (seed : ℕ) → commands seed 0 ≡ []
unfolding commands
no-commands seed = refl

next-of : (seed j k : ℕ) → k ≡ suc j → commands seed k ≡ commands seed j ++ listed (number_at seed k) k
unfolding commands
next-of seed j k is = subst (λ (k : ℕ). commands seed k ≡ commands seed j ++ listed (number_at seed k) k) (sym is) refl

pub commands-next : (seed j : ℕ) → commands seed (j + 1) ≡ commands seed j ++ listed (number_at seed (j + 1)) (j + 1)
commands-next seed j = next-of seed j (j + 1) (one-more j)

-- a text that had the first j commands, and got the next one
pub pushed-next : (before now next : List ℕ) (seed j x k : ℕ) → now ≡ before ++ commands seed j → x ≡ number_at seed (j + 1) → k ≡ j → next ≡ now ++ listed x (k + 1) → next ≡ before ++ commands seed (j + 1)
pushed-next before now next seed j x k had number place pushed =
    pushed ∙ ap (λ (l : List ℕ). l ++ listed x (k + 1)) had ∙ append_assoc before (commands seed j) (listed x (k + 1))
    ∙ ap (λ (l : List ℕ). before ++ (commands seed j ++ l)) (ap (λ (y : ℕ). listed y (k + 1)) number ∙ ap (λ (i : ℕ). listed (number_at seed (j + 1)) (i + 1)) place)
    ∙ ap (λ (l : List ℕ). before ++ l) (sym (commands-next seed j))
