-- Which commands nodes know that run beside each other, as a test, and the first that they don't know.
use Rattle.std.specs.Prelude.{◌≡◌, ℕ, ◌+◌, ◌<◌, ◌&&◌, nat_lt, Bool, true, false, if◌then◌else◌, List, [], ◌∷◌, take, slice_get, Option, Some, None}
use Rattle.model_world.specs.Command as command
use Rattle.model_world.specs.Command.{Until, Command}

-- the first command that has too great a number: with fewer no source comes to too many rows
abbrev pub number_limit : ℕ
number_limit = 65536

-- a threshold that speaks of no mark
abbrev pub IsLiveUntil : Until → Type 0
IsLiveUntil (command.AtLeast m) = ⊥
IsLiveUntil (command.Above m) = ⊥
IsLiveUntil (command.Count k) = Unit {0}
IsLiveUntil (command.Added vs) = Unit {0}
IsLiveUntil (command.Removed vs) = Unit {0}

-- an update, a send, a print, or an await of such a threshold: what one node does by itself
abbrev pub IsLiveCommand : Command → Type 0
IsLiveCommand (command.Add p x v) = Unit {0}
IsLiveCommand (command.Remove p x v) = Unit {0}
IsLiveCommand (command.Insert p x v) = Unit {0}
IsLiveCommand (command.Inc p x k) = Unit {0}
IsLiveCommand (command.Max p x n) = Unit {0}
IsLiveCommand (command.Mark p x) = ⊥
IsLiveCommand (command.Bind p x m) = ⊥
IsLiveCommand (command.Send p) = Unit {0}
IsLiveCommand (command.Deliver p i) = ⊥
IsLiveCommand command.Sync = ⊥
IsLiveCommand command.Settle = ⊥
IsLiveCommand (command.Print p x) = Unit {0}
IsLiveCommand (command.Read p x until) = ⊥
IsLiveCommand (command.Await p x until) = IsLiveUntil until
IsLiveCommand (command.Declare d) = ⊥

-- such a command whose number isn't too great
abbrev pub IsLiveAt : ℕ → Command → Type 0
IsLiveAt number k = IsLiveCommand k × (number < number_limit)

-- each command is one, the first having this number
abbrev pub AreLiveFrom : ℕ → List Command → Type 0
AreLiveFrom number [] = Unit {0}
AreLiveFrom number (k ∷ rest) = IsLiveAt number k × AreLiveFrom (number + 1) rest

abbrev pub AreLive : List Command → Type 0
AreLive commands = AreLiveFrom 1 commands

-- the command at this place isn't one, and those before it are; the first has this number
pub record IsFirstOther (number : ℕ) (commands : List Command) (place : ℕ) : Type 0 where
  pub other : Command
  pub at : slice_get commands place ≡ Some other
  pub unknown : ¬ IsLiveAt (number + place) other
  pub before : AreLiveFrom number (take place commands)

-- ---- as a test

abbrev pub is_live_until : Until → Bool
is_live_until (command.AtLeast m) = false
is_live_until (command.Above m) = false
is_live_until (command.Count k) = true
is_live_until (command.Added vs) = true
is_live_until (command.Removed vs) = true

abbrev pub is_live_command : Command → Bool
is_live_command (command.Add p x v) = true
is_live_command (command.Remove p x v) = true
is_live_command (command.Insert p x v) = true
is_live_command (command.Inc p x k) = true
is_live_command (command.Max p x n) = true
is_live_command (command.Send p) = true
is_live_command (command.Print p x) = true
is_live_command (command.Await p x until) = is_live_until until
is_live_command _ = false

abbrev pub is_live_at : ℕ → Command → Bool
is_live_at number k = is_live_command k && nat_lt number number_limit

-- the number of the first command that isn't one, the first command having this number
unfoldable pub first_other : ℕ → List Command → Option ℕ
first_other number [] = None
first_other number (k ∷ rest) = if is_live_at number k then first_other (number + 1) rest else Some number
