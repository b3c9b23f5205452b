-- Which texts a trace of a script's run may be: the report, and behind it the lines of a journal for each node. Which results stand in a journal, and where, differs from run to run; all else is told.
use Rattle.std.specs.Prelude.{◌≡◌, ℕ, ◌+◌, List, [], ◌∷◌, ◌++◌, length, slice_get, Some}
use Rattle.model_graph.specs.Graph.{Decl}
use Rattle.model_graph.specs.Evaluation.{eval}
use Rattle.model_journal.specs.Entry.{Entry}
use Rattle.model_journal.specs.Journal.{graph, vals, counts, sources}
use Rattle.model_journal.specs.Legal.{IsLegal}
use Rattle.model_runs.specs.Calls.{frame_of, calls, unbound}
use Rattle.model_world.specs.Command.{Script}
use Rattle.model_world.specs.Report.{report_of}
use Rattle.model_world.specs.World.{Run, start, peer_at}
use Rattle.model_core.specs.Trace.{journal_lines}

-- a journal that node p may come to: legal; but for results it has what the script makes there, once, in order and by caller 0; at its end it counts what the node counts at the run's end, and each variable is what plain evaluation of the sources gives
pub record IsTraced (g : List Decl) (script : Script) (run : Run) (p : ℕ) (entries : List Entry) : Type 0 where
  pub legal : IsLegal (frame_of g script.nodes p) entries
  pub calls_made : unbound entries ≡ calls 1 (start g script.nodes) p script.commands
  pub counted : counts (frame_of g script.nodes p) entries ≡ (peer_at run.peers p).counts
  pub evaluated : vals (frame_of g script.nodes p) entries ≡ eval (graph (frame_of g script.nodes p) entries) (sources (frame_of g script.nodes p) entries)

-- one for each node
pub record AreTraced (g : List Decl) (script : Script) (run : Run) (journals : List (List Entry)) : Type 0 where
  pub many : length journals ≡ script.nodes
  pub each : (p : ℕ) (entries : List Entry) → slice_get journals p ≡ Some entries → IsTraced g script run p entries

-- the lines of the journals of the nodes from p on
abbrev pub trace_lines : List Decl → ℕ → ℕ → List (List Entry) → List ℕ
trace_lines g nodes p [] = []
trace_lines g nodes p (entries ∷ more) = journal_lines (graph (frame_of g nodes p) entries) p entries ++ trace_lines g nodes (p + 1) more

-- a text that tells a run which came to this end
abbrev pub IsTrace : List Decl → Script → Run → List ℕ → Type 0
IsTrace g script run bytes = (journals : List (List Entry)) × AreTraced g script run journals × (bytes ≡ report_of run ++ trace_lines g script.nodes 0 journals)
