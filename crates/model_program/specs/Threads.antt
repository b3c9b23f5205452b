-- The plans of the forms for several threads.
use Rattle.std.specs.Prelude.{ℕ, List, [], ◌∷◌, codes, Result, Ok, Err}
use Rattle.model_functions.specs.Library.{Library}
use Rattle.model_graph.specs.Chain.{◌>>=◌, refusing}
use Rattle.model_graph.specs.Graph.{Decl}
use Rattle.model_program.specs.Generator.{load_graph, load_script}
use Rattle.model_program.specs.Summary.{load_text}
use Rattle.model_readings.specs.Graph.{graph_of}
use Rattle.model_scripts.specs.Progress.{grown}
use Rattle.model_scripts.specs.Script.{script_of}
use Rattle.model_world.specs.Command.{Script}
use Rattle.model_world.specs.World.{Run, ended}
use Rattle.model_world.specs.declared.stop.Stop.{Stop}
use Rattle.model_program.specs.Plan.{Traced, Answer, Plan, Says, exactly, word_at}
use Rattle.model_program.specs.Program.{opening, scripting, stopped, run_answer, graph_refused, script_refused}
use Rattle.model_program.specs.declared.refusal.Refusal.{Refusal}

-- ---- `run`

-- the words of the run of the same files on one thread
abbrev pub plain_words : List (List ℕ) → List (List ℕ)
plain_words words = codes "plain" ∷ word_at words 1 ∷ word_at words 2 ∷ []

-- ---- `trace`

-- a run that came to this end is traced
abbrev pub traced_end : List Decl → Script → Result Run Stop → Answer
traced_end g script (Ok run) = Ok (Traced g script run)
traced_end g script (Err stop) = Err (stopped (grown g script.commands) stop)

abbrev pub trace_answer : List Decl → Script → Answer
trace_answer g script = traced_end g script (ended g script)

-- script, run, and then the report and the journals
abbrev pub tracing_script : Library → List Decl → Plan
tracing_script lib g = scripting lib g (λ script. Says (trace_answer g script))

-- graph, script, run, and then the report and the journals
abbrev pub tracing : Library → Plan
tracing lib = opening lib (λ g. tracing_script lib g)

-- ---- `load`

-- the generated script against the graph, its run, and then the summary
abbrev pub loaded_over : Library → ℕ → ℕ → List Decl → Result (List ℕ) Refusal
loaded_over lib seed count g = refusing script_refused (script_of lib g (load_script seed count)) >>= λ script. run_answer (load_text seed count) g script

-- the generated graph, and then that
abbrev pub load_answer : Library → ℕ → ℕ → Result (List ℕ) Refusal
load_answer lib seed count = refusing graph_refused (graph_of lib load_graph) >>= loaded_over lib seed count

-- no file is read
abbrev pub loading : Library → ℕ → ℕ → Plan
loading lib seed count = Says (exactly (load_answer lib seed count))
