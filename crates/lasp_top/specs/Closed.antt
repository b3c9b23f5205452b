-- What a run over stores leaves in their cores.
use Rattle.std.specs.Prelude.{◌≡◌, ℕ, ◌+◌, List, [], ◌∷◌, ◌++◌, length, map, slice_get, Some, Result, Ok, Err}
use Rattle.std.specs.declared.vec.Vec.{Vec}
use Rattle.model_core.specs.Core.{Core}
use Rattle.model_graph.specs.Graph.{Decl}
use Rattle.model_journal.specs.Journal.{graph}
use Rattle.model_runs.specs.Calls.{frame_of}
use Rattle.model_core.specs.Trace.{journal_lines}
use Rattle.model_core.specs.Traced.{AreTraced}
use Rattle.model_world.specs.Command.{Script}
use Rattle.model_world.specs.Report.{report_of}
use Rattle.model_world.specs.World.{Run, ended}
use Rattle.lasp_drive.specs.Acts.{Halts}
use Rattle.lasp_drive.specs.declared.halt.Halt.{Halt}

-- the cores of a run that came to this end: one for each node, each with a journal that may be traced of it
pub record AreCoresOf (g : List Decl) (script : Script) (run : Run) (cores : List Core) : Type 0 where
  pub traced : AreTraced g script run (map (λ c. c.entries) cores)
  pub peers : length run.peers ≡ script.nodes
  pub frames : (p : ℕ) (core : Core) → slice_get cores p ≡ Some core → core.frame ≡ frame_of g script.nodes p

-- the report and the cores of a run that came to its end, or the run stopped, or memory was wanting
abbrev pub RanClosed : {A : Type 0} → List Decl → Script → Result (Vec ℕ A × Vec Core A) Halt → Type 0
RanClosed g script (Ok ran) = (run : Run) × (ended g script ≡ Ok run) × (ran.0.items ≡ report_of run) × AreCoresOf g script run ran.1.items
RanClosed g script (Err why) = Halts (ended g script) why

-- the lines of the journals of cores, the first being that of node p
abbrev pub traces_of : ℕ → List Core → List ℕ
traces_of p [] = []
traces_of p (core ∷ cores) = journal_lines (graph core.frame core.entries) p core.entries ++ traces_of (p + 1) cores
