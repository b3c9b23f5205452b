-- Which commands of a script replicas of one set without tombstones know, as a test, and the first that they don't know.
use Rattle.std.specs.Prelude.{◌≡◌, ℕ, ◌+◌, Bool, true, false, if◌then◌else◌, List, [], ◌∷◌, take, slice_get, Option, Some, None}
use Rattle.model_world.specs.Command as command
use Rattle.model_world.specs.Command.{Command}
use Rattle.model_dots.specs.DotWorld.{IsDotCommand, AreDotCommands}

abbrev pub is_dot_command : Command → Bool
is_dot_command (command.Add p x v) = true
is_dot_command (command.Remove p x v) = true
is_dot_command (command.Send p) = true
is_dot_command (command.Deliver p i) = true
is_dot_command command.Sync = true
is_dot_command command.Settle = true
is_dot_command (command.Print p x) = true
is_dot_command _ = false

-- the number of the first command of another word, the first command having this number
unfoldable pub first_other : ℕ → List Command → Option ℕ
first_other number [] = None
first_other number (k ∷ rest) = if is_dot_command k then first_other (number + 1) rest else Some number

-- the command at this place is of another word, and those before it aren't
pub record IsFirstOther (commands : List Command) (place : ℕ) : Type 0 where
  pub other : Command
  pub at : slice_get commands place ≡ Some other
  pub unknown : ¬ IsDotCommand other
  pub before : AreDotCommands (take place commands)
