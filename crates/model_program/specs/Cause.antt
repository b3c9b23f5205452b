-- Each answer with its cause, over told contents: one constructor for each cause, and no answer without one.
use Rattle.std.specs.Prelude.{◌≡◌, ◌<◌, ◌≤◌, ◌+◌, ◌++◌, ◌∷◌, [], ℕ, List, length, Option, Some, None, Ok, Err}
use Rattle.model_functions.specs.Library.{Library}
use Rattle.model_graph.specs.Evaluation.{eval, first_large}
use Rattle.model_graph.specs.Graph.{Decl, name_at}
use Rattle.model_graph.specs.Message.{Message}
use Rattle.model_world.specs.Command.{Script}
use Rattle.model_world.specs.Report.{report_of}
use Rattle.model_deltas.specs.Gossip.{Gossip, gossiped, gossip_output}
use Rattle.model_world.specs.World.{Run, ended}
use Rattle.model_world.specs.declared.stop.Stop.{Stop}
use Rattle.model_readings.specs.Graph.{graph_of}
use Rattle.model_readings.specs.declared.graph_why.GraphWhy.{GraphWhy}
use Rattle.model_scripts.specs.Progress.{grown}
use Rattle.model_scripts.specs.Script.{script_of}
use Rattle.model_scripts.specs.declared.script_why.ScriptWhy.{ScriptWhy}
use Rattle.model_scripts.specs.declared.script_why.ScriptWhy.TheVariants.{NoSuchNode}
use Rattle.model_wire.specs.Message.{decoded}
use Rattle.model_wire.specs.declared.wire_why.WireWhy.{WireWhy}
use Rattle.model_program.specs.Check.{check_text}
use Rattle.model_program.specs.Merge.{file_at, joined, merge_text}
use Rattle.model_program.specs.Plan.{Exactly, Answer, word_at, file_limit}
use Rattle.model_dots.specs.DotReport.{dot_output}
use Rattle.model_dots.specs.DotWorld.{one_set, AreDotCommands}
use Rattle.model_dots.specs.Words.{IsFirstOther}
use Rattle.model_program.specs.Program.{form, stopped, exported_bytes, IsUsageForm}
use Rattle.model_program.specs.Told.{IsFileTold, IsGraphTold, IsScriptTold, IsDotsTold, IsOfGraph, IsOfNodes, AreJoined}
use Rattle.model_program.specs.declared.form.Form.{Form}
use Rattle.model_program.specs.declared.form.Form.TheVariants.{Plain, Delta, Check, Dots, Export, Merge, Threaded, Wrong}
use Rattle.model_program.specs.declared.refusal.Refusal.{Refusal}
use Rattle.model_program.specs.declared.refusal.Refusal.TheVariants as refusal
use Rattle.model_program.specs.declared.state_why.StateWhy.TheVariants.{Wire, WrongGraph}

-- the graph's file is too long, or refused
pub data IsGraphRefused (lib : Library) (content : List ℕ → Option (List ℕ)) (words : List (List ℕ)) : Refusal → Type 0 where
  graph_long : {bytes : List ℕ} → content (word_at words 1) ≡ Some bytes → file_limit < length bytes → IsGraphRefused lib content words (refusal.TooLong 1)
  graph_bad : {bytes : List ℕ} {number : ℕ} {why : GraphWhy} → IsFileTold content words 1 bytes → graph_of lib bytes ≡ Err (number, why) → IsGraphRefused lib content words (refusal.Graph number why)

-- the script's file, the first, is too long, or refused against the graph of one set
pub data IsDotsRefused (lib : Library) (content : List ℕ → Option (List ℕ)) (words : List (List ℕ)) : Refusal → Type 0 where
  dots_long : {bytes : List ℕ} → content (word_at words 1) ≡ Some bytes → file_limit < length bytes → IsDotsRefused lib content words (refusal.TooLong 1)
  dots_bad : {bytes : List ℕ} {number : ℕ} {why : ScriptWhy} → IsFileTold content words 1 bytes → script_of lib one_set bytes ≡ Err (number, why) → IsDotsRefused lib content words (refusal.Script number why)

-- the script's file is too long, or refused against the graph
pub data IsScriptRefused (lib : Library) (content : List ℕ → Option (List ℕ)) (words : List (List ℕ)) (g : List Decl) : Refusal → Type 0 where
  script_long : {bytes : List ℕ} → content (word_at words 2) ≡ Some bytes → file_limit < length bytes → IsScriptRefused lib content words g (refusal.TooLong 2)
  script_bad : {bytes : List ℕ} {number : ℕ} {why : ScriptWhy} → IsFileTold content words 2 bytes → script_of lib g bytes ≡ Err (number, why) → IsScriptRefused lib content words g (refusal.Script number why)

-- the file behind those of these messages is too long, no message, of another graph or number of nodes, or makes a source too large
pub data IsFileRefused (content : List ℕ → Option (List ℕ)) (words : List (List ℕ)) (g : List Decl) (before : List Message) : Refusal → Type 0 where
  file_long : {bytes : List ℕ} → content (word_at words (file_at (length before))) ≡ Some bytes → file_limit < length bytes → IsFileRefused content words g before (refusal.TooLong (file_at (length before)))
  no_message : {bytes : List ℕ} {place : ℕ} {why : WireWhy} → IsFileTold content words (file_at (length before)) bytes → decoded bytes ≡ Err (place, why)
      → IsFileRefused content words g before (refusal.State (file_at (length before)) place (Wire why))
  wrong_graph : {bytes : List ℕ} {m : Message} → IsFileTold content words (file_at (length before)) bytes → decoded bytes ≡ Ok m → ¬ (IsOfGraph g m × IsOfNodes before m)
      → IsFileRefused content words g before (refusal.State (file_at (length before)) 0 WrongGraph)
  source_large : {bytes : List ℕ} {m : Message} {x : ℕ} → IsFileTold content words (file_at (length before)) bytes → decoded bytes ≡ Ok m → IsOfGraph g m → IsOfNodes before m
      → first_large 0 (joined g (before ++ m ∷ [])).contents ≡ Some x → IsFileRefused content words g before (refusal.TooLarge (length before) 0 (name_at g x))

-- words of this form name a graph's file first
abbrev pub ReadsGraph : Form → Type 0
ReadsGraph Plain = Unit {0}
ReadsGraph Delta = Unit {0}
ReadsGraph Check = Unit {0}
ReadsGraph (Export node) = Unit {0}
ReadsGraph Merge = Unit {0}
ReadsGraph Dots = ⊥
ReadsGraph (Threaded threads) = ⊥
ReadsGraph Wrong = ⊥

-- the answer has its cause in these words and contents
pub data HasCause (lib : Library) (content : List ℕ → Option (List ℕ)) (words : List (List ℕ)) : Answer → Type 0 where
  usage : IsUsageForm (form words) → HasCause lib content words (Err refusal.Usage)
  graph_refused : {x : Refusal} → ReadsGraph (form words) → IsGraphRefused lib content words x → HasCause lib content words (Err x)
  -- `plain`
  script_refused : {g : List Decl} {x : Refusal} → form words ≡ Plain → IsGraphTold lib content words g → IsScriptRefused lib content words g x → HasCause lib content words (Err x)
  run_stopped : {g : List Decl} {s : Script} {halt : Stop} → form words ≡ Plain → IsGraphTold lib content words g → IsScriptTold lib content words g s → ended g s ≡ Err halt
      → HasCause lib content words (Err (stopped (grown g s.commands) halt))
  reported : {g : List Decl} {s : Script} {run : Run} → form words ≡ Plain → IsGraphTold lib content words g → IsScriptTold lib content words g s → ended g s ≡ Ok run
      → HasCause lib content words (Ok (Exactly (report_of run)))
  -- `delta`
  delta_refused : {g : List Decl} {x : Refusal} → form words ≡ Delta → IsGraphTold lib content words g → IsScriptRefused lib content words g x → HasCause lib content words (Err x)
  delta_stopped : {g : List Decl} {s : Script} {halt : Stop} → form words ≡ Delta → IsGraphTold lib content words g → IsScriptTold lib content words g s → ended g s ≡ Err halt
      → HasCause lib content words (Err (stopped (grown g s.commands) halt))
  delta_done : {g : List Decl} {s : Script} {run : Gossip} → form words ≡ Delta → IsGraphTold lib content words g → IsScriptTold lib content words g s → gossiped g s ≡ Ok run
      → HasCause lib content words (Ok (Exactly (gossip_output run)))
  -- `check`
  checked : {g : List Decl} → form words ≡ Check → IsGraphTold lib content words g → HasCause lib content words (Ok (Exactly (check_text g)))
  -- `dots`
  dots_refused : {x : Refusal} → form words ≡ Dots → IsDotsRefused lib content words x → HasCause lib content words (Err x)
  other_word : {s : Script} {place : ℕ} → form words ≡ Dots → IsDotsTold lib content words s → IsFirstOther s.commands place → HasCause lib content words (Err (refusal.NotDots (1 + place)))
  dots_done : {s : Script} → form words ≡ Dots → IsDotsTold lib content words s → AreDotCommands s.commands → HasCause lib content words (Ok (Exactly (dot_output s.nodes s.commands)))
  -- `export`
  export_refused : {g : List Decl} {x : Refusal} {node : ℕ} → form words ≡ Export node → IsGraphTold lib content words g → IsScriptRefused lib content words g x → HasCause lib content words (Err x)
  no_such_node : {g : List Decl} {s : Script} {node : ℕ} → form words ≡ Export node → IsGraphTold lib content words g → IsScriptTold lib content words g s → s.nodes ≤ node
      → HasCause lib content words (Err (refusal.Script (length s.commands + 1) NoSuchNode))
  export_stopped : {g : List Decl} {s : Script} {halt : Stop} {node : ℕ} → form words ≡ Export node → IsGraphTold lib content words g → IsScriptTold lib content words g s → node < s.nodes → ended g s ≡ Err halt
      → HasCause lib content words (Err (stopped (grown g s.commands) halt))
  exported : {g : List Decl} {s : Script} {run : Run} {node : ℕ} → form words ≡ Export node → IsGraphTold lib content words g → IsScriptTold lib content words g s → node < s.nodes → ended g s ≡ Ok run
      → HasCause lib content words (Ok (Exactly (exported_bytes node run)))
  -- `merge`
  file_refused : {g : List Decl} {before : List Message} {x : Refusal} → form words ≡ Merge → IsGraphTold lib content words g → AreJoined g content words before → file_at (length before) < length words
      → IsFileRefused content words g before x → HasCause lib content words (Err x)
  variable_too_large : {g : List Decl} {all : List Message} {x : ℕ} → form words ≡ Merge → IsGraphTold lib content words g → AreJoined g content words all → file_at (length all) ≡ length words
      → first_large 0 (eval g (joined g all).contents) ≡ Some x → HasCause lib content words (Err (refusal.TooLarge (length all) 0 (name_at g x)))
  merged : {g : List Decl} {all : List Message} → form words ≡ Merge → IsGraphTold lib content words g → AreJoined g content words all → file_at (length all) ≡ length words
      → first_large 0 (eval g (joined g all).contents) ≡ None → HasCause lib content words (Ok (Exactly (merge_text g (joined g all))))
