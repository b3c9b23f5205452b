-- What a driver does on the way through a script: stretches of commands, and the points between them.
use Rattle.std.specs.Prelude.{◌≡◌, ◌⊎◌, ℕ, ◌+◌, ◌<◌, ◌≤◌, Bool, true, false, IsTrue, List, drop, length, map, slice_get, Some, Result, Ok, Err}
use Rattle.model_functions.specs.Library.{Library}
use Rattle.model_world.specs.Command as plain
use Rattle.model_world.specs.Lawful.{AreLawful}
use Rattle.model_world.specs.World.{play}
use Rattle.model_readings.specs.Lawful.{IsGraph, FitsAll}
use Rattle.model_scripts.specs.Progress.{grown}
use Rattle.model_core.specs.Core.{Read}
use Rattle.model_runs.specs.Calls.{calls}
use Rattle.lasp_drive.specs.Node.{NodeView}
use Rattle.lasp_drive.specs.Waiting.{opened_by, counted_on}
use Rattle.lasp_drive.specs.Calls.{calls_at, IsPart}
use Rattle.lasp_drive.specs.Driver.{DriverView, seen, run_of, stage_of, Stands}
use Rattle.lasp_drive.specs.Play.{all_asked, stages_after, StopsAmong}
use Rattle.lasp_drive.specs.declared.halt.Halt.{Halt}
use Rattle.lasp_drive.specs.declared.driver.Driver.{Driver}

-- a point: every node is settled before the command
abbrev pub is_point : plain.Command → Bool
is_point plain.Settle = true
is_point (plain.Print p x) = true
is_point (plain.Await p x u) = true
is_point (plain.Declare d) = true
is_point _ = false

-- of the commands from one place up to another none is a point
abbrev pub HaveNoPoint : ℕ → ℕ → List plain.Command → Type 0
HaveNoPoint from i commands = (j : ℕ) → from ≤ j → j < i → (k : plain.Command) → slice_get commands j ≡ Some k → is_point k ≡ false

-- the driver stands before command number c, and what is left of the script may be done, each command in its turn
pub record MayGoOn (lib : Library) (c : ℕ) (d : DriverView) (left : List plain.Command) : Type 0 where
  pub ready : Stands c d
  pub lawful : AreLawful (length d.nodes) (stage_of d) left
  pub few : c + length left ≤ 100000
  pub graph : IsGraph (grown d.graph left)
  pub fits : FitsAll lib (grown d.graph left)

-- of commands from number b on those from number c on are left: what is to come of them is what was to come of all
pub record GoesOn (b c : ℕ) (old now : DriverView) (all left : List plain.Command) : Type 0 where
  pub ready : Stands c now
  pub size : length now.nodes ≡ length old.nodes
  pub stage : stages_after (length old.nodes) (stage_of now) left ≡ stages_after (length old.nodes) (stage_of old) all
  pub run : play c (run_of now) left ≡ play b (run_of old) all
  pub calls : (p : ℕ) → p < length old.nodes → IsPart (calls_at old.nodes p) (calls_at now.nodes p) (calls b (run_of old) p all) (calls c (run_of now) p left)
  pub opened : (p : ℕ) → p < length old.nodes → counted_on (all_asked p left) (opened_by now.nodes p) ≡ counted_on (all_asked p all) (opened_by old.nodes p)

-- the commands of a script from one place to another were done, and the others may be
pub record IsAt (lib : Library) (from i : ℕ) (commands : List plain.Command) (old new : DriverView) : Type 0 where
  pub within : i ≤ length commands
  pub may : MayGoOn lib (i + 1) new (drop i commands)
  pub way : GoesOn (from + 1) (i + 1) old new (drop from commands) (drop i commands)

-- the same, and there is the next point, or the script's end
pub record HasAdvanced (lib : Library) (from i : ℕ) (commands : List plain.Command) (old new : DriverView) : Type 0 where
  pub past : from ≤ i
  pub there : IsAt lib from i commands old new
  pub between : HaveNoPoint from i commands
  pub point : (k : plain.Command) → slice_get commands i ≡ Some k → IsTrue (is_point k)

-- the same, or the run stopped on the way
abbrev pub AdvancesSeen : Library → ℕ → List plain.Command → DriverView → Result ℕ Halt → DriverView → Type 0
AdvancesSeen lib from commands old (Ok i) new = HasAdvanced lib from i commands old new
AdvancesSeen lib from commands old (Err why) new = StopsAmong (from + 1) old (drop from commands) why new.nodes

-- the same, and each node is where it was
pub record Advances {N R P : Type 0} (view : N → NodeView) (read : R → Read) (place : N → P) (lib : Library) (from : ℕ) (commands : List plain.Command) (old : Driver N R) (result : Result ℕ Halt) (new : Driver N R) : Type 0 where
  pub advances : AdvancesSeen lib from commands (seen view read old) result (seen view read new)
  pub in_place : map place new.nodes.items ≡ map place old.nodes.items

-- the point at a place was done, and the next stretch begins behind it; or there is none, at the script's end
abbrev pub CrossesSeen : Library → ℕ → List plain.Command → DriverView → Result ℕ Halt → DriverView → Type 0
CrossesSeen lib i commands old (Ok j) new = ((i < j) ⊎ (j ≡ length commands)) × IsAt lib i j commands old new
CrossesSeen lib i commands old (Err why) new = StopsAmong (i + 1) old (drop i commands) why new.nodes

-- the same, and each node is where it was
pub record Crosses {N R P : Type 0} (view : N → NodeView) (read : R → Read) (place : N → P) (lib : Library) (i : ℕ) (commands : List plain.Command) (old : Driver N R) (result : Result ℕ Halt) (new : Driver N R) : Type 0 where
  pub crosses : CrossesSeen lib i commands (seen view read old) result (seen view read new)
  pub in_place : map place new.nodes.items ≡ map place old.nodes.items

-- a stretch was done and the point behind it, or the run stopped on the way
abbrev pub PassesOnSeen : Library → ℕ → List plain.Command → DriverView → Result ℕ Halt → DriverView → Type 0
PassesOnSeen lib from commands old (Ok i) new = (from < i) × IsAt lib from i commands old new
PassesOnSeen lib from commands old (Err why) new = StopsAmong (from + 1) old (drop from commands) why new.nodes

-- the same, and each node is where it was
pub record PassesOn {N R P : Type 0} (view : N → NodeView) (read : R → Read) (place : N → P) (lib : Library) (from : ℕ) (commands : List plain.Command) (old : Driver N R) (result : Result ℕ Halt) (new : Driver N R) : Type 0 where
  pub passes : PassesOnSeen lib from commands (seen view read old) result (seen view read new)
  pub in_place : map place new.nodes.items ≡ map place old.nodes.items
