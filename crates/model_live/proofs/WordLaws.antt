-- The first command that nodes don't know which run beside each other.
use Rattle.std.proofs.Common.{◌≡◌, ℕ, zero, suc, ◌+◌, ◌<◌, ◌&&◌, Bool, true, false, List, [], ◌∷◌, Some, None, refl, sym, ap, subst, ◌∙◌, arith}
use Rattle.std.specs.Prelude.{◌↔◌, nat_lt, Option, if◌then◌else◌}
use Rattle.std.proofs.lemmas.Bool.Decides.{nat_tests}
use Rattle.std.proofs.lemmas.Option.{same_Some}
use Rattle.model_world.specs.Command as command
use Rattle.model_world.specs.Command.{Until, Command}
use Rattle.model_live.specs.Words.{number_limit, IsLiveUntil, IsLiveCommand, IsLiveAt, AreLiveFrom, IsFirstOther, is_live_until, is_live_command, is_live_at, first_other}

-- ---- the tests

until-live : (u : Until) → is_live_until u ≡ true → IsLiveUntil u
until-live (command.AtLeast m) e = absurd cc
until-live (command.Above m) e = absurd cc
until-live (command.Count k) e = tt
until-live (command.Added vs) e = tt
until-live (command.Removed vs) e = tt

live-until : (u : Until) → IsLiveUntil u → is_live_until u ≡ true
live-until (command.AtLeast m) h = absurd h
live-until (command.Above m) h = absurd h
live-until (command.Count k) h = refl
live-until (command.Added vs) h = refl
live-until (command.Removed vs) h = refl

command-live : (k : Command) → is_live_command k ≡ true → IsLiveCommand k
command-live (command.Add p x v) e = tt
command-live (command.Remove p x v) e = tt
command-live (command.Insert p x v) e = tt
command-live (command.Inc p x k) e = tt
command-live (command.Max p x n) e = tt
command-live (command.Mark p x) e = absurd cc
command-live (command.Bind p x m) e = absurd cc
command-live (command.Send p) e = tt
command-live (command.Deliver p i) e = absurd cc
command-live command.Sync e = absurd cc
command-live command.Settle e = absurd cc
command-live (command.Print p x) e = tt
command-live (command.Read p x until) e = absurd cc
command-live (command.Await p x until) e = until-live until e
command-live (command.Declare d) e = absurd cc

live-command : (k : Command) → IsLiveCommand k → is_live_command k ≡ true
live-command (command.Add p x v) h = refl
live-command (command.Remove p x v) h = refl
live-command (command.Insert p x v) h = refl
live-command (command.Inc p x k) h = refl
live-command (command.Max p x n) h = refl
live-command (command.Mark p x) h = absurd h
live-command (command.Bind p x m) h = absurd h
live-command (command.Send p) h = refl
live-command (command.Deliver p i) h = absurd h
live-command command.Sync h = absurd h
live-command command.Settle h = absurd h
live-command (command.Print p x) h = refl
live-command (command.Read p x until) h = absurd h
live-command (command.Await p x until) h = live-until until h
live-command (command.Declare d) h = absurd h

-- both parts of a test that holds
both-hold : (a b : Bool) → (a && b) ≡ true → (a ≡ true) × (b ≡ true)
both-hold true b e = (refl, e)
both-hold false b e = absurd cc

hold-both : (a b : Bool) → a ≡ true → b ≡ true → (a && b) ≡ true
hold-both a b e f = (λ i. e i && f i)

below-limit : (number : ℕ) → nat_lt number number_limit ≡ true → number < number_limit
below-limit number e = grind (arith, nat_tests, e)

limit-below : (number : ℕ) → number < number_limit → nat_lt number number_limit ≡ true
limit-below number h = grind (arith, nat_tests, h)

at-live : (number : ℕ) (k : Command) → is_live_at number k ≡ true → IsLiveAt number k
at-live number k e = let parts = both-hold (is_live_command k) (nat_lt number number_limit) e in (command-live k parts.0, below-limit number parts.1)

live-at : (number : ℕ) (k : Command) → IsLiveAt number k → is_live_at number k ≡ true
live-at number k h = hold-both (is_live_command k) (nat_lt number number_limit) (live-command k h.0) (limit-below number h.1)

at-unlive : (number : ℕ) (k : Command) → is_live_at number k ≡ false → IsLiveAt number k → ⊥
at-unlive number k e h = let same : true ≡ false = sym (live-at number k h) ∙ e in cc

-- what the first command that isn't known is, where the first command is known or not
abbrev chosen : Bool → ℕ → List Command → Option ℕ
chosen b number rest = if b then first_other (number + 1) rest else Some number

-- ---- the first that isn't known

pub other-told : (number told : ℕ) (commands : List Command) → first_other number commands ≡ Some told → (place : ℕ) × (told ≡ number + place) × IsFirstOther number commands place
unfolding first_other
other-told number told [] e = absurd cc
other-told number told (k ∷ rest) e = choose (is_live_at number k) refl (other-told (number + 1) told rest) where
  choose : (b : Bool) → is_live_at number k ≡ b → (first_other (number + 1) rest ≡ Some told → (place : ℕ) × (told ≡ number + 1 + place) × IsFirstOther (number + 1) rest place) → (place : ℕ) × (told ≡ number + place) × IsFirstOther number (k ∷ rest) place
  choose true known later =
      let there = later (sym (ap (λ (b : Bool). chosen b number rest) known) ∙ e) in (
        suc there.0,
        omega (arith, there.1),
        record {
          other = there.2.other;
          at = there.2.at;
          unknown = subst (λ (n : ℕ). ¬ IsLiveAt n there.2.other) (omega arith) there.2.unknown;
          before = (at-live number k known, there.2.before);
        },
      )
  choose false other later = (
    0,
    omega (arith, same_Some number told (sym (ap (λ (b : Bool). chosen b number rest) other) ∙ e)),
    record {
      other = k;
      at = refl;
      unknown = subst (λ (n : ℕ). ¬ IsLiveAt n k) (omega arith) (at-unlive number k other);
      before = tt;
    },
  )

pub other-is : (number place : ℕ) (commands : List Command) → IsFirstOther number commands place → first_other number commands ≡ Some (number + place)
unfolding first_other
other-is number place [] h = absurd (let at = h.at in cc)
other-is number zero (k ∷ rest) h = choose (is_live_at number k) refl where
  choose : (b : Bool) → is_live_at number k ≡ b → chosen (is_live_at number k) number rest ≡ Some (number + zero)
  choose true known = absurd (h.unknown (subst (λ (c : Command). IsLiveAt (number + zero) c) (same_Some k h.other h.at) (subst (λ (n : ℕ). IsLiveAt n k) (omega arith) (at-live number k known))))
  choose false other = ap (λ (b : Bool). chosen b number rest) other ∙ ap (λ (n : ℕ). Some n) (let same : number ≡ number + zero = omega arith in same)
other-is number (suc place) (k ∷ rest) h =
    ap (λ (b : Bool). chosen b number rest) (live-at number k h.before.0)
    ∙ other-is (number + 1) place rest (record { other = h.other; at = h.at; unknown = subst (λ (n : ℕ). ¬ IsLiveAt n h.other) (omega arith) h.unknown; before = h.before.1 })
    ∙ ap (λ (n : ℕ). Some n) (let same : number + 1 + place ≡ number + suc place = omega arith in same)

told-other : (number told : ℕ) (commands : List Command) → ((place : ℕ) × (told ≡ number + place) × IsFirstOther number commands place) → first_other number commands ≡ Some told
told-other number told commands h = other-is number h.0 commands h.2 ∙ ap (λ (n : ℕ). Some n) (sym h.1)

pub first-told : (number told : ℕ) (commands : List Command) → (first_other number commands ≡ Some told ↔ ((place : ℕ) × (told ≡ number + place) × IsFirstOther number commands place))
first-told number told commands = (other-told number told commands, told-other number told commands)

-- ---- none

pub none-known : (number : ℕ) (commands : List Command) → first_other number commands ≡ None → AreLiveFrom number commands
unfolding first_other
none-known number [] e = tt
none-known number (k ∷ rest) e = choose (is_live_at number k) refl (none-known (number + 1) rest) where
  choose : (b : Bool) → is_live_at number k ≡ b → (first_other (number + 1) rest ≡ None → AreLiveFrom (number + 1) rest) → AreLiveFrom number (k ∷ rest)
  choose true known later = (at-live number k known, later (sym (ap (λ (b : Bool). chosen b number rest) known) ∙ e))
  choose false other later = absurd (let none = sym (ap (λ (b : Bool). chosen b number rest) other) ∙ e in cc)

pub known-none : (number : ℕ) (commands : List Command) → AreLiveFrom number commands → first_other number commands ≡ None
unfolding first_other
known-none number [] h = refl
known-none number (k ∷ rest) h = ap (λ (b : Bool). chosen b number rest) (live-at number k h.0) ∙ known-none (number + 1) rest h.1

pub first-none : (number : ℕ) (commands : List Command) → (first_other number commands ≡ None ↔ AreLiveFrom number commands)
first-none number commands = (none-known number commands, known-none number commands)
