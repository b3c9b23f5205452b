-- The run of a whole script, and what is written of it.
use Rattle.std.specs.Prelude.{◌≡◌, ℕ, ◌<◌, ◌≤◌, List, length, Result, Ok, Err, IfSome}
use Rattle.std.specs.declared.vec.Vec.{Vec}
use Rattle.model_functions.specs.Library.{Library}
use Rattle.model_graph.specs.Graph.{Decl}
use Rattle.model_world.specs.Command.{Script}
use Rattle.model_world.specs.Lawful.{IsLawful, IsWithinLimits, opening_stage}
use Rattle.model_world.specs.World.{Run, start, ended}
use Rattle.model_world.specs.declared.stop.Stop.{Stop}
use Rattle.model_readings.specs.Lawful.{IsGraph, FitsAll}
use Rattle.model_scripts.specs.Progress.{grown}
use Rattle.model_core.specs.Core.{Read}
use Rattle.model_runs.specs.Calls.{calls}
use Rattle.lasp_drive.specs.Node.{NodeView, AreSettled}
use Rattle.lasp_drive.specs.Waiting.{opened_by}
use Rattle.lasp_drive.specs.Calls.{calls_at}
use Rattle.lasp_drive.specs.Driver.{DriverView, seen, run_of, stage_of, Stands}
use Rattle.lasp_drive.specs.Acts.{Halts}
use Rattle.lasp_drive.specs.Play.{all_asked, stages_after}
use Rattle.lasp_drive.specs.declared.halt.Halt.{Halt}
use Rattle.lasp_drive.specs.declared.driver.Driver.{Driver}

-- a script that may run over a graph: its commands may follow each other, it is within its limits, and so is the graph that it leaves behind, whose functions are the library's
pub record IsRunnable (lib : Library) (g : List Decl) (script : Script) : Type 0 where
  pub lawful : IsLawful g script
  pub limits : IsWithinLimits script
  pub graph : IsGraph (grown g script.commands)
  pub fits : FitsAll lib (grown g script.commands)

-- a driver behind the last command of a script
pub record Ends (g : List Decl) (script : Script) (d : DriverView) : Type 0 where
  pub run : ended g script ≡ Ok (run_of d)
  pub size : length d.nodes ≡ script.nodes
  pub last : ℕ
  pub few : last ≤ 100000
  pub ready : Stands last d
  pub settled : AreSettled d.nodes
  pub stage : stage_of d ≡ stages_after script.nodes (opening_stage g) script.commands
  -- each node has got exactly the calls that the script makes at it, in their order
  pub calls : (p : ℕ) → p < script.nodes → calls_at d.nodes p ≡ calls 1 (start g script.nodes) p script.commands
  -- and, where its reads are told, opened as many as the script has `read`s and `await`s there
  pub opened : (p : ℕ) → p < script.nodes → IfSome (opened_by d.nodes p) (λ opened. opened ≡ all_asked p script.commands)

-- a driver has come to the run's last world, or the run stopped, or memory was wanting
abbrev pub RunsTo : {N R : Type 0} → (N → NodeView) → (R → Read) → List Decl → Script → Result (Driver N R) Halt → Type 0
RunsTo view read g script (Ok d) = Ends g script (seen view read d)
RunsTo view read g script (Err why) = Halts (ended g script) why

-- the bytes are what is written of the run's last world, or the run stopped, or memory was wanting
abbrev pub Reports : {A : Type 0} → Result Run Stop → (Run → List ℕ) → Result (Vec ℕ A) Halt → Type 0
Reports expected output (Ok bytes) = (run : Run) × (expected ≡ Ok run) × (bytes.items ≡ output run)
Reports expected output (Err why) = Halts expected why
