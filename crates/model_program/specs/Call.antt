-- A call of the program over its files and outputs, and all that is promised of it.
use Rattle.std.specs.Prelude.{◌≡◌, ◌≢◌, ◌≤◌, ◌++◌, ◌⊎◌, ℕ, List, [], ◌∷◌, Option, Some, Result, Ok, Err}
use Rattle.std.specs.Str.{IsUtf8}
use Rattle.model_functions.specs.Library.{Library}
use Rattle.model_graph.specs.Graph.{Decl}
use Rattle.model_values.specs.Faults.{Rose}
use Rattle.model_values.specs.Told.{Appends, AppendsPrefix}
use Rattle.model_world.specs.Command.{Script}
use Rattle.model_world.specs.World.{Run, start, ended}
use Rattle.model_world.specs.Report.{report_of}
use Rattle.model_dots.specs.DotReport.{live_lines}
use Rattle.model_dots.specs.DotWorld.{one_set}
use Rattle.model_dots.specs.Unlimited.{unlimited}
use Rattle.model_deltas.specs.Gossip.{Gossip, gossiped, delta_line}
use Rattle.model_world.specs.Direct.{direct_report}
use Rattle.model_program.specs.Cause.{HasCause}
use Rattle.model_program.specs.Ends.{Writing, writing, Tells, Ends, NoFault, MeetsFault}
use Rattle.model_program.specs.Follows.{View, view, Follows}
use Rattle.model_program.specs.Line.{status_of, line_of}
use Rattle.model_program.specs.Plan.{Text, IsText, Answer, Plan, told_answer}
use Rattle.model_program.specs.Places.{AreKnown, AreAlike, DeltasStand}
use Rattle.model_program.specs.Program.{form, plan, IsUsageForm}
use Rattle.model_program.specs.Told.{TellsRun, TellsDeltas, TellsDots}
use Rattle.model_program.specs.declared.failure.Failure.{Failure}
use Rattle.model_program.specs.declared.failure.Failure.TheVariants.{Refused}
use Rattle.model_program.specs.declared.refusal.Refusal.{Refusal}
use Rattle.model_program.specs.declared.refusal.Refusal.TheVariants.{Usage}

-- ---- files and outputs over a call

-- the contents of all files are told as before
abbrev pub AreUnchanged : {N : Type 0} → (N → List ℕ → Option (List ℕ)) → N → N → Type 0
AreUnchanged content old new = (name : List ℕ) → content new name ≡ content old name

-- no file's count of faults fell
abbrev pub AreLater : {N : Type 0} → (N → List ℕ → ℕ) → N → N → Type 0
AreLater faults old new = (name : List ℕ) → faults old name ≤ faults new name

-- what a call saw of its files
abbrev pub seen : {N : Type 0} → (N → List ℕ → Option (List ℕ)) → (N → List ℕ → ℕ) → N → N → View
seen content faults old new = view (content old) (faults old) (faults new)

-- what a call did to an output
abbrev pub writing_of : {S : Type 0} → (S → Option (List ℕ)) → (S → ℕ) → S → S → Writing
writing_of bytes faults old new = writing (bytes old) (bytes new) (faults old) (faults new)

-- an output's count of faults didn't fall
abbrev pub IsLater : Writing → Type 0
IsLater s = s.faults_before ≤ s.faults_after

-- files over a call: what they tell of contents by name, each name's count of faults, and how they were and are
pub record Reading (N : Type 0) : Type 0 where
  pub content : N → List ℕ → Option (List ℕ)
  pub faults : N → List ℕ → ℕ
  pub before : N
  pub after : N

abbrev pub reading_of : {N : Type 0} → (N → List ℕ → Option (List ℕ)) → (N → List ℕ → ℕ) → N → N → Reading N
reading_of content faults old new = record { content = content; faults = faults; before = old; after = new }

abbrev pub view_of : {N : Type 0} → Reading N → View
view_of files = seen files.content files.faults files.before files.after

-- such a text was written
abbrev pub Writes : Writing → Text → Type 0
Writes s text = (bytes : List ℕ) × IsText text bytes × Appends s.before bytes s.after

-- such a text, which has something to write, was begun, and the count of faults rose
abbrev pub Begins : Writing → Text → Type 0
Begins s text = (bytes : List ℕ) × IsText text bytes × (bytes ≢ []) × Rose s.faults_before s.faults_after × AppendsPrefix s.before bytes s.after

-- ---- words that are no texts

-- each word is a text in UTF-8
abbrev pub AreTexts : List (List ℕ) → Type 0
AreTexts [] = Unit {0}
AreTexts (word ∷ words) = IsUtf8 word × AreTexts words

-- A call that answered usage: no file was read, nothing written to `out`, and the line told on `err`.
pub record IsUsage {N : Type 0} (files : Reading N) (out err : Writing) (status : ℕ) : Type 0 where
  pub unread : files.after ≡ files.before
  pub unwritten : out.after ≡ out.before
  pub out_later : IsLater out
  pub err_later : IsLater err
  pub told : Tells err (line_of [] (Refused Usage))
  pub usage : status ≡ status_of (Refused Usage)

-- ---- what is promised

-- the contents that are told decide this answer to the plan
abbrev pub DecidesBy : Plan → List (List ℕ) → View → Answer → Type 0
DecidesBy p words v answer = told_answer v.content words p ≡ Some answer

-- memory was wanting, or a read of a file to which the plan comes failed
abbrev pub IsLacking : Plan → List (List ℕ) → View → ℕ → Type 0
IsLacking p words v status = (status ≡ 7) ⊎ ((status ≡ 4) × MeetsFault words v p)

-- A call on these words, over these files and both outputs, that answered this status by a plan.
pub record IsPlanned {N : Type 0} (p : Plan) (words : List (List ℕ)) (files : Reading N) (out err : Writing) (status : ℕ) : Type 0 where
  -- contents of files stay, and no count of faults falls
  pub same : AreUnchanged files.content files.before files.after
  pub later : AreLater files.faults files.before files.after
  pub out_later : IsLater out
  pub err_later : IsLater err
  -- some answer follows the plan, and the call ends by it
  pub ends : (answer : Result (List ℕ) Failure) × Follows words (view_of files) p answer × Ends words answer out err status
  -- a refusal that the contents decide has its status, unless memory was wanting or a read of a file to which the plan comes failed
  pub refused : (x : Refusal) → DecidesBy p words (view_of files) (Err x) → (status ≡ status_of (Refused x)) ⊎ IsLacking p words (view_of files) status
  -- a text that the contents decide is written whole with status 0, or begun with 5 where `out` failed, with the same exception
  pub written : (text : Text) → DecidesBy p words (view_of files) (Ok text)
      → ((status ≡ 0) × Writes out text) ⊎ (((status ≡ 5) × Begins out text) ⊎ IsLacking p words (view_of files) status)
  -- a text that the contents decide is written whole with status 0, unless memory was wanting, where nothing failed
  pub complete : (text : Text) → DecidesBy p words (view_of files) (Ok text) → NoFault words (view_of files) p → ¬ Rose out.faults_before out.faults_after
      → ((status ≡ 0) × Writes out text) ⊎ (status ≡ 7)
  -- with another status than 0 and 5 nothing is written to `out`
  pub quiet : status ≢ 0 → status ≢ 5 → out.after ≡ out.before

-- the contents that are told decide this answer to the words
abbrev pub Decides : Library → List (List ℕ) → View → Answer → Type 0
Decides lib words v answer = DecidesBy (plan lib words) words v answer

-- A call of the program on these words, over these files and both outputs, that answered this status.
pub record IsAnswered {N : Type 0} (lib : Library) (words : List (List ℕ)) (files : Reading N) (out err : Writing) (status : ℕ) : Type 0 where
  -- it goes by the plan of the words
  pub planned : IsPlanned (plan lib words) words files out err status
  -- an answer that the contents decide has its cause in them, one of those that are listed
  pub caused : (answer : Answer) → Decides lib words (view_of files) answer → HasCause lib (files.content files.before) words answer
  -- where the contents of both files are told, a report is the one that can be told from what the nodes know alone
  pub direct : (g : List Decl) (script : Script) → TellsRun lib (files.content files.before) words g script → status ≡ 0
      → (run : Run) × (ended g script ≡ Ok run) × Appends out.before (direct_report g script run) out.after
  -- of such a run: at each place each node has what is known by its counts, so nodes with equal counts, at one place or two with the same graph, have equal sources, show the same and print the same
  pub known : (g : List Decl) (script : Script) → TellsRun lib (files.content files.before) words g script → status ≡ 0 → AreKnown g script
  pub alike : (g : List Decl) (script : Script) → TellsRun lib (files.content files.before) words g script → status ≡ 0 → AreAlike g script
  -- where the contents of both files are told, `delta` writes the report of the run, and behind it how its messages travelled
  pub deltas : (g : List Decl) (script : Script) → TellsDeltas lib (files.content files.before) words g script → status ≡ 0
      → (s : Gossip) × (gossiped g script ≡ Ok s) × (ended g script ≡ Ok s.run) × Appends out.before (report_of s.run ++ delta_line s) out.after
  -- of such a run: a delta between messages that nodes told, at any places, brings a node what its later message brings, or a gap is told, or the source that would be too large
  pub deltas_stand : (g : List Decl) (script : Script) → TellsDeltas lib (files.content files.before) words g script → status ≡ 0 → DeltasStand g script
  -- where the contents of the script are told, `dots` writes the report of its run over one set, and how many live rows each node's set has: of the run that comes to its end, and of any as if no limit stopped it
  pub dots : (script : Script) (run : Run) → TellsDots lib (files.content files.before) words script → ended one_set script ≡ Ok run → status ≡ 0 → Appends out.before (report_of run ++ live_lines 0 run.peers) out.after
  pub dots_unlimited : (script : Script) (run : Run) → TellsDots lib (files.content files.before) words script → run ≡ unlimited (start one_set script.nodes) script.commands → status ≡ 0
      → Appends out.before (report_of run ++ live_lines 0 run.peers) out.after
  -- words of no form for one thread: no file is read
  pub unread : IsUsageForm (form words) → files.after ≡ files.before
