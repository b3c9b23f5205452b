-- The first command that nodes don't know which run beside each other, command by command.
use Rattle.std.proofs.Common.{◌≡◌, ℕ, ◌+◌, ◌≤◌, List, length, drop, ap, ◌∙◌}
use Rattle.std.specs.Prelude.{Bool, true, false, if◌then◌else◌, Some, None, slice_get}
use Rattle.std.proofs.lemmas.List.{drop_all}
use Rattle.model_values.proofs.ListLaws.{drop-at}
use Rattle.model_world.specs.Command.{Command}
use Rattle.model_live.specs.Words.{is_live_at, first_other}

pub other-here : (number : ℕ) (ks : List Command) (i : ℕ) (k : Command) → slice_get ks i ≡ Some k → is_live_at number k ≡ false → first_other number (drop i ks) ≡ Some number
unfolding first_other
other-here number ks i k at other = ap (first_other number) (drop-at ks i k at) ∙ ap (λ (b : Bool). if b then first_other (number + 1) (drop (i + 1) ks) else Some number) other

pub other-next : (number : ℕ) (ks : List Command) (i : ℕ) (k : Command) → slice_get ks i ≡ Some k → is_live_at number k ≡ true → first_other number (drop i ks) ≡ first_other (number + 1) (drop (i + 1) ks)
unfolding first_other
other-next number ks i k at known = ap (first_other number) (drop-at ks i k at) ∙ ap (λ (b : Bool). if b then first_other (number + 1) (drop (i + 1) ks) else Some number) known

pub other-end : (number : ℕ) (ks : List Command) (i : ℕ) → length ks ≤ i → first_other number (drop i ks) ≡ None
unfolding first_other
other-end number ks i past = ap (first_other number) (drop_all i ks past)
