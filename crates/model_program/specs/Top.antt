-- All that is promised of a call with worker threads.
use Rattle.std.specs.Prelude.{◌≡◌, ◌++◌, ℕ, List, Option, Some, None, Ok, Err}
use Rattle.model_functions.specs.Library.{Library}
use Rattle.model_graph.specs.Graph.{Decl}
use Rattle.model_journal.specs.Entry.{Entry}
use Rattle.model_world.specs.Direct.{direct_report}
use Rattle.model_program.specs.Generator.{load_graph, load_script}
use Rattle.model_program.specs.Summary.{load_text}
use Rattle.model_readings.specs.Graph.{graph_of}
use Rattle.model_readings.specs.declared.graph_why.GraphWhy.{GraphWhy}
use Rattle.model_scripts.specs.Progress.{grown}
use Rattle.model_scripts.specs.Script.{script_of}
use Rattle.model_scripts.specs.declared.script_why.ScriptWhy.{ScriptWhy}
use Rattle.model_core.specs.Traced.{AreTraced, trace_lines}
use Rattle.model_values.specs.Told.{Appends}
use Rattle.model_world.specs.Command.{Script}
use Rattle.model_world.specs.World.{Run, ended}
use Rattle.model_world.specs.declared.stop.Stop.{Stop}
use Rattle.model_program.specs.Call.{Reading, view_of, DecidesBy, IsPlanned, IsAnswered}
use Rattle.model_program.specs.Cause.{IsGraphRefused, IsScriptRefused}
use Rattle.model_program.specs.Ends.{Writing}
use Rattle.model_program.specs.Live.{IsLiveAnswered}
use Rattle.model_program.specs.Places.{AreKnown, AreAlike}
use Rattle.model_program.specs.Plan.{Exactly, Traced, Answer}
use Rattle.model_program.specs.Program.{form, stopped}
use Rattle.model_program.specs.Threads.{plain_words, tracing, loading}
use Rattle.model_program.specs.Told.{IsGraphTold, IsScriptTold}
use Rattle.model_program.specs.declared.form.Form.{Form}
use Rattle.model_program.specs.declared.form.Form.TheVariants.{Plain, Delta, Check, Dots, Export, Merge, Threaded, Wrong}
use Rattle.model_program.specs.declared.refusal.Refusal.{Refusal}
use Rattle.model_program.specs.declared.refusal.Refusal.TheVariants as refusal
use Rattle.model_program.specs.declared.threaded.Threaded as threads
use Rattle.model_program.specs.declared.threaded.Threaded.TheVariants.{Run as RunBy, Trace, Live, Load}

-- ---- `trace`

-- the answer to a trace has its cause in these words and contents
pub data HasTraceCause (lib : Library) (content : List ℕ → Option (List ℕ)) (words : List (List ℕ)) : Answer → Type 0 where
  graph_refused : {x : Refusal} → IsGraphRefused lib content words x → HasTraceCause lib content words (Err x)
  script_refused : {g : List Decl} {x : Refusal} → IsGraphTold lib content words g → IsScriptRefused lib content words g x → HasTraceCause lib content words (Err x)
  run_stopped : {g : List Decl} {s : Script} {halt : Stop} → IsGraphTold lib content words g → IsScriptTold lib content words g s → ended g s ≡ Err halt → HasTraceCause lib content words (Err (stopped (grown g s.commands) halt))
  traced : {g : List Decl} {s : Script} {run : Run} → IsGraphTold lib content words g → IsScriptTold lib content words g s → ended g s ≡ Ok run → HasTraceCause lib content words (Ok (Traced g s run))

-- A call of `trace` that answered this status.
pub record IsTraceAnswered {N : Type 0} (lib : Library) (words : List (List ℕ)) (files : Reading N) (out err : Writing) (status : ℕ) : Type 0 where
  pub planned : IsPlanned (tracing lib) words files out err status
  -- an answer that the contents decide has its cause in them, one of those that are listed
  pub caused : (answer : Answer) → DecidesBy (tracing lib) words (view_of files) answer → HasTraceCause lib (files.content files.before) words answer
  -- where the contents of both files are told, the report in front of the journals is the one that can be told from what the nodes know alone, and at each place each node has what is known by its counts
  pub direct : (g : List Decl) (script : Script) → IsGraphTold lib (files.content files.before) words g → IsScriptTold lib (files.content files.before) words g script → status ≡ 0
      → (run : Run) × (ended g script ≡ Ok run) × (journals : List (List Entry)) × AreTraced g script run journals × Appends out.before (direct_report g script run ++ trace_lines g script.nodes 0 journals) out.after
  pub known : (g : List Decl) (script : Script) → IsGraphTold lib (files.content files.before) words g → IsScriptTold lib (files.content files.before) words g script → status ≡ 0 → AreKnown g script
  pub alike : (g : List Decl) (script : Script) → IsGraphTold lib (files.content files.before) words g → IsScriptTold lib (files.content files.before) words g script → status ≡ 0 → AreAlike g script

-- ---- `load`

-- the answer to a load has its cause in the library, the seed and the count
pub data HasLoadCause (lib : Library) (seed count : ℕ) : Answer → Type 0 where
  graph_refused : {number : ℕ} {why : GraphWhy} → graph_of lib load_graph ≡ Err (number, why) → HasLoadCause lib seed count (Err (refusal.Graph number why))
  script_refused : {g : List Decl} {number : ℕ} {why : ScriptWhy} → graph_of lib load_graph ≡ Ok g → script_of lib g (load_script seed count) ≡ Err (number, why) → HasLoadCause lib seed count (Err (refusal.Script number why))
  run_stopped : {g : List Decl} {s : Script} {halt : Stop} → graph_of lib load_graph ≡ Ok g → script_of lib g (load_script seed count) ≡ Ok s → ended g s ≡ Err halt → HasLoadCause lib seed count (Err (stopped (grown g s.commands) halt))
  loaded : {g : List Decl} {s : Script} {run : Run} → graph_of lib load_graph ≡ Ok g → script_of lib g (load_script seed count) ≡ Ok s → ended g s ≡ Ok run → HasLoadCause lib seed count (Ok (Exactly (load_text seed count run)))

-- A call of `load` that answered this status: no file is read.
pub record IsLoadAnswered {N : Type 0} (lib : Library) (seed count : ℕ) (words : List (List ℕ)) (files : Reading N) (out err : Writing) (status : ℕ) : Type 0 where
  pub planned : IsPlanned (loading lib seed count) words files out err status
  pub caused : (answer : Answer) → DecidesBy (loading lib seed count) words (view_of files) answer → HasLoadCause lib seed count answer
  pub unread : files.after ≡ files.before

-- ---- all forms

-- the form for several threads, where it is one
abbrev pub threaded_in : Form → Option threads.Threaded
threaded_in (Threaded t) = Some t
threaded_in Plain = None
threaded_in Check = None
threaded_in Delta = None
threaded_in Dots = None
threaded_in (Export node) = None
threaded_in Merge = None
threaded_in Wrong = None

-- `run` is answered as that run on one thread, `trace`, `load` and `live` as they say, and all else as one thread answers it
abbrev pub AnswersBy : {N : Type 0} → Library → List (List ℕ) → Reading N → Writing → Writing → ℕ → Option threads.Threaded → Type 0
AnswersBy lib words files out err status (Some (RunBy workers)) = IsAnswered lib (plain_words words) files out err status
AnswersBy lib words files out err status (Some (Trace workers)) = IsTraceAnswered lib words files out err status
AnswersBy lib words files out err status (Some (Load seed count workers)) = IsLoadAnswered lib seed count words files out err status
AnswersBy lib words files out err status (Some (Live workers)) = IsLiveAnswered lib words files out err status
AnswersBy lib words files out err status None = IsAnswered lib words files out err status

-- A call with worker threads on these words, over these files and both outputs, that answered this status.
abbrev pub IsTopAnswered : {N : Type 0} → Library → List (List ℕ) → Reading N → Writing → Writing → ℕ → Type 0
IsTopAnswered lib words files out err status = AnswersBy lib words files out err status (threaded_in (form words))
