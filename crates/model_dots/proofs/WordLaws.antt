-- The first command of another word.
use Rattle.std.proofs.Common.{◌≡◌, ℕ, zero, suc, ◌+◌, Bool, true, false, List, [], ◌∷◌, Some, None, refl, sym, ap, subst, ◌∙◌, arith}
use Rattle.std.specs.Prelude.{◌↔◌, Option, if◌then◌else◌}
use Rattle.std.proofs.lemmas.Option.{same_Some}
use Rattle.model_world.specs.Command as command
use Rattle.model_world.specs.Command.{Command}
use Rattle.model_dots.specs.DotWorld.{IsDotCommand, AreDotCommands}
use Rattle.model_dots.specs.Words.{is_dot_command, first_other, IsFirstOther}

-- the test says whether the command is known
command-known : (k : Command) → is_dot_command k ≡ true → IsDotCommand k
command-known (command.Add p x v) e = tt
command-known (command.Remove p x v) e = tt
command-known (command.Insert p x v) e = absurd cc
command-known (command.Inc p x k) e = absurd cc
command-known (command.Max p x n) e = absurd cc
command-known (command.Mark p x) e = absurd cc
command-known (command.Bind p x m) e = absurd cc
command-known (command.Send p) e = tt
command-known (command.Deliver p i) e = tt
command-known command.Sync e = tt
command-known command.Settle e = tt
command-known (command.Print p x) e = tt
command-known (command.Read p x until) e = absurd cc
command-known (command.Await p x until) e = absurd cc
command-known (command.Declare d) e = absurd cc

command-unknown : (k : Command) → is_dot_command k ≡ false → IsDotCommand k → ⊥
command-unknown (command.Add p x v) e h = absurd cc
command-unknown (command.Remove p x v) e h = absurd cc
command-unknown (command.Insert p x v) e h = h
command-unknown (command.Inc p x k) e h = h
command-unknown (command.Max p x n) e h = h
command-unknown (command.Mark p x) e h = h
command-unknown (command.Bind p x m) e h = h
command-unknown (command.Send p) e h = absurd cc
command-unknown (command.Deliver p i) e h = absurd cc
command-unknown command.Sync e h = absurd cc
command-unknown command.Settle e h = absurd cc
command-unknown (command.Print p x) e h = absurd cc
command-unknown (command.Read p x until) e h = h
command-unknown (command.Await p x until) e h = h
command-unknown (command.Declare d) e h = h

pub known-command : (k : Command) → IsDotCommand k → is_dot_command k ≡ true
known-command (command.Add p x v) h = refl
known-command (command.Remove p x v) h = refl
known-command (command.Insert p x v) h = absurd h
known-command (command.Inc p x k) h = absurd h
known-command (command.Max p x n) h = absurd h
known-command (command.Mark p x) h = absurd h
known-command (command.Bind p x m) h = absurd h
known-command (command.Send p) h = refl
known-command (command.Deliver p i) h = refl
known-command command.Sync h = refl
known-command command.Settle h = refl
known-command (command.Print p x) h = refl
known-command (command.Read p x until) h = absurd h
known-command (command.Await p x until) h = absurd h
known-command (command.Declare d) h = absurd h

-- what the first command of another word is, where the first command is known or not
abbrev chosen : Bool → ℕ → List Command → Option ℕ
chosen b number rest = if b then first_other (number + 1) rest else Some number

-- ---- the first of another word

pub other-told : (number told : ℕ) (commands : List Command) → first_other number commands ≡ Some told → (place : ℕ) × (told ≡ number + place) × IsFirstOther commands place
unfolding first_other
other-told number told [] e = absurd cc
other-told number told (k ∷ rest) e = choose (is_dot_command k) refl (other-told (number + 1) told rest) where
  choose : (b : Bool) → is_dot_command k ≡ b → (first_other (number + 1) rest ≡ Some told → (place : ℕ) × (told ≡ number + 1 + place) × IsFirstOther rest place) → (place : ℕ) × (told ≡ number + place) × IsFirstOther (k ∷ rest) place
  choose true known later =
      let there = later (sym (ap (λ (b : Bool). chosen b number rest) known) ∙ e) in
      (suc there.0, omega (arith, there.1), record { other = there.2.other; at = there.2.at; unknown = there.2.unknown; before = (command-known k known, there.2.before) })
  choose false other later =
      (0, omega (arith, same_Some number told (sym (ap (λ (b : Bool). chosen b number rest) other) ∙ e)), record { other = k; at = refl; unknown = command-unknown k other; before = tt })

other-is : (number place : ℕ) (commands : List Command) → IsFirstOther commands place → first_other number commands ≡ Some (number + place)
unfolding first_other
other-is number place [] h = absurd (let at = h.at in cc)
other-is number zero (k ∷ rest) h = choose (is_dot_command k) refl where
  choose : (b : Bool) → is_dot_command k ≡ b → chosen (is_dot_command k) number rest ≡ Some (number + zero)
  choose true known = absurd (h.unknown (subst IsDotCommand (same_Some k h.other h.at) (command-known k known)))
  choose false other = ap (λ (b : Bool). chosen b number rest) other ∙ ap (λ (n : ℕ). Some n) (let same : number ≡ number + zero = omega arith in same)
other-is number (suc place) (k ∷ rest) h =
    ap (λ (b : Bool). chosen b number rest) (known-command k h.before.0)
    ∙ other-is (number + 1) place rest (record { other = h.other; at = h.at; unknown = h.unknown; before = h.before.1 })
    ∙ ap (λ (n : ℕ). Some n) (let same : number + 1 + place ≡ number + suc place = omega arith in same)

told-other : (number told : ℕ) (commands : List Command) → ((place : ℕ) × (told ≡ number + place) × IsFirstOther commands place) → first_other number commands ≡ Some told
told-other number told commands h = other-is number h.0 commands h.2 ∙ ap (λ (n : ℕ). Some n) (sym h.1)

pub first-told : (number told : ℕ) (commands : List Command) → (first_other number commands ≡ Some told ↔ ((place : ℕ) × (told ≡ number + place) × IsFirstOther commands place))
first-told number told commands = (other-told number told commands, told-other number told commands)

-- ---- none

pub none-known : (number : ℕ) (commands : List Command) → first_other number commands ≡ None → AreDotCommands commands
unfolding first_other
none-known number [] e = tt
none-known number (k ∷ rest) e = choose (is_dot_command k) refl (none-known (number + 1) rest) where
  choose : (b : Bool) → is_dot_command k ≡ b → (first_other (number + 1) rest ≡ None → AreDotCommands rest) → AreDotCommands (k ∷ rest)
  choose true known later = (command-known k known, later (sym (ap (λ (b : Bool). chosen b number rest) known) ∙ e))
  choose false other later = absurd (let none = sym (ap (λ (b : Bool). chosen b number rest) other) ∙ e in cc)

pub known-none : (number : ℕ) (commands : List Command) → AreDotCommands commands → first_other number commands ≡ None
unfolding first_other
known-none number [] h = refl
known-none number (k ∷ rest) h = ap (λ (b : Bool). chosen b number rest) (known-command k h.0) ∙ known-none (number + 1) rest h.1

pub first-none : (number : ℕ) (commands : List Command) → (first_other number commands ≡ None ↔ AreDotCommands commands)
first-none number commands = (none-known number commands, known-none number commands)
