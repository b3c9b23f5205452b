-- What the commands of a script do to a driver, one after the other.
use Rattle.std.specs.Prelude.{◌≡◌, ℕ, ◌+◌, ◌<◌, ◌≤◌, ◌==◌, if◌then◌else◌, List, [], ◌∷◌, length, map, Result, Ok, Err}
use Rattle.model_functions.specs.Library.{Library}
use Rattle.model_world.specs.Command as plain
use Rattle.model_world.specs.Lawful.{Stage, opening_stage, stage_after, AreLawful}
use Rattle.model_world.specs.World.{play}
use Rattle.model_readings.specs.Lawful.{IsGraph, FitsAll}
use Rattle.model_scripts.specs.Progress.{grown}
use Rattle.model_core.specs.Core.{Read}
use Rattle.model_runs.specs.Calls.{calls}
use Rattle.lasp_drive.specs.Node.{NodeView, AreSettled}
use Rattle.lasp_drive.specs.Waiting.{GoOnByReads}
use Rattle.lasp_drive.specs.Marks.{IsHeldAt}
use Rattle.lasp_drive.specs.Calls.{GoOnByCalls, GoesOnWithin}
use Rattle.lasp_drive.specs.Driver.{DriverView, seen, run_of, stage_of, Stands}
use Rattle.lasp_drive.specs.Acts.{Halts}
use Rattle.lasp_drive.specs.declared.halt.Halt.{Halt}
use Rattle.lasp_drive.specs.declared.driver.Driver.{Driver}
use Rattle.lasp_drive.specs.declared.driver.Mark.{Mark}
use Rattle.lasp_script.specs.declared.command.Until.{Until}
use Rattle.lasp_script.specs.declared.command.Until.TheVariants.{AtLeast, Above, Count, Added, Removed}

-- the mark of a threshold is one of so many
abbrev pub IsUntilWithin : ℕ → Until → Type 0
IsUntilWithin many (AtLeast m) = m < many
IsUntilWithin many (Above m) = m < many
IsUntilWithin many (Count k) = Unit {0}
IsUntilWithin many (Added vs) = Unit {0}
IsUntilWithin many (Removed vs) = Unit {0}

-- the mark of a threshold, if it has one, is told to be held by node p
abbrev pub IsLeastHeld : List Mark → Until → ℕ → Type 0
IsLeastHeld marks (AtLeast k) p = IsHeldAt marks k p
IsLeastHeld marks (Above k) p = IsHeldAt marks k p
IsLeastHeld marks (Count n) p = Unit {0}
IsLeastHeld marks (Added vs) p = Unit {0}
IsLeastHeld marks (Removed vs) p = Unit {0}

-- how many reads a command opens at node p
abbrev pub asked : ℕ → plain.Command → ℕ
asked p (plain.Read q x u) = if q == p then 1 else 0
asked p (plain.Await q x u) = if q == p then 1 else 0
asked p _ = 0

-- how many reads the commands of a script open at node p: its `read`s and `await`s there
abbrev pub all_asked : ℕ → List plain.Command → ℕ
all_asked p [] = 0
all_asked p (k ∷ ks) = asked p k + all_asked p ks

-- the stage behind commands
abbrev pub stages_after : ℕ → Stage → List plain.Command → Stage
stages_after many s [] = s
stages_after many s (k ∷ ks) = stages_after many (stage_after many s k) ks

-- the driver stands before the first of these commands, each of which may be done in its turn
pub record MayPlay (lib : Library) (d : DriverView) (commands : List plain.Command) : Type 0 where
  pub ready : Stands 1 d
  pub stage : stage_of d ≡ opening_stage d.graph
  pub lawful : AreLawful (length d.nodes) (opening_stage d.graph) commands
  pub few : length commands < 100000
  pub graph : IsGraph (grown d.graph commands)
  pub fits : FitsAll lib (grown d.graph commands)

-- all of the commands were done as the world does them, and each node got the calls that they make at it, and is settled
pub record Played (old : DriverView) (commands : List plain.Command) (new : DriverView) : Type 0 where
  pub last : ℕ
  pub few : last ≤ 100000
  pub ready : Stands last new
  pub size : length new.nodes ≡ length old.nodes
  pub settled : AreSettled new.nodes
  pub stage : stage_of new ≡ stages_after (length old.nodes) (stage_of old) commands
  pub run : play 1 (run_of old) commands ≡ Ok (run_of new)
  pub calls : GoOnByCalls old.nodes new.nodes (λ p. calls 1 (run_of old) p commands)
  pub opened : GoOnByReads old.nodes new.nodes (λ p. all_asked p commands)

-- the run stopped among commands, the first of which has number b, where the world stops, or memory was wanting; each node has got the first of the calls that they make at it
pub record StopsAmong (b : ℕ) (old : DriverView) (commands : List plain.Command) (why : Halt) (new : List NodeView) : Type 0 where
  pub halts : Halts (play b (run_of old) commands) why
  pub calls : GoesOnWithin old.nodes new (λ p. calls b (run_of old) p commands)

-- the commands were done, or the run stopped among them
abbrev pub PlaysSeen : {A : Type 0} → DriverView → List plain.Command → Result A Halt → DriverView → Type 0
PlaysSeen old commands (Ok done) new = Played old commands new
PlaysSeen old commands (Err why) new = StopsAmong 1 old commands why new.nodes

-- the same, and each node is where it was
pub record Plays {N R P A : Type 0} (view : N → NodeView) (read : R → Read) (place : N → P) (old : Driver N R) (commands : List plain.Command) (result : Result A Halt) (new : Driver N R) : Type 0 where
  pub played : PlaysSeen (seen view read old) commands result (seen view read new)
  pub in_place : map place new.nodes.items ≡ map place old.nodes.items
