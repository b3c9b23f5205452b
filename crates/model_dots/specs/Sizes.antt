-- How much the states of such worlds count.
use Rattle.std.specs.Prelude.{ℕ, ◌≤◌, Bool, true, false, List, length, filter}
use Rattle.model_states.specs.Counts.{count_at}
use Rattle.model_world.specs.Command as command
use Rattle.model_world.specs.Command.{Command}
use Rattle.model_dots.specs.DotWorld.{DotWorld, dots_at}

abbrev pub is_update : Command → Bool
is_update (command.Add p x v) = true
is_update (command.Remove p x v) = true
is_update _ = false

-- how many updates commands make
abbrev pub updates : List Command → ℕ
updates commands = length (filter is_update commands)

-- no state counts more than so many updates of one replica
pub record CountAtMost (many : ℕ) (w : DotWorld) : Type 0 where
  pub nodes : (p q : ℕ) → count_at (dots_at w.nodes p).counts q ≤ many
  pub sent : (i q : ℕ) → count_at (dots_at w.sent i).counts q ≤ many
