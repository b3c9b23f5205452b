-- `live`: the nodes of a script run beside each other. Its plan, what its calls come to, how they end, and all that is promised of them.
use Rattle.std.specs.Prelude.{◌≡◌, ◌≢◌, ◌⊎◌, ℕ, ◌+◌, List, [], ◌∷◌, codes, length, Option, Some, None, Result, Ok, Err}
use Rattle.model_functions.specs.Library.{Library}
use Rattle.model_graph.specs.Evaluation.{eval}
use Rattle.model_graph.specs.Graph.{Decl, name_at}
use Rattle.model_live.specs.Together.{full, too_large, IsFirstLargeDerived}
use Rattle.model_live.specs.Words.{AreLive, IsFirstOther, first_other}
use Rattle.model_values.specs.Faults.{Rose}
use Rattle.model_values.specs.Told.{Appends, AppendsPrefix}
use Rattle.model_world.specs.Command.{Script}
use Rattle.model_world.specs.Line.{line}
use Rattle.model_program.specs.Call.{AreUnchanged, AreLater, IsLater, Reading, view_of, Writes, Begins, DecidesBy, IsLacking}
use Rattle.model_program.specs.Cause.{IsGraphRefused, IsScriptRefused}
use Rattle.model_program.specs.Ends.{Writing, Tells, NoFault}
use Rattle.model_program.specs.Follows.{View, Follows}
use Rattle.model_program.specs.Line.{status_of, line_of}
use Rattle.model_program.specs.Plan.{Lived, Answer, Plan, Says}
use Rattle.model_program.specs.Program.{opening, scripting}
use Rattle.model_program.specs.Told.{IsGraphTold, IsScriptTold}
use Rattle.model_program.specs.declared.failure.Failure.{Failure}
use Rattle.model_program.specs.declared.failure.Failure.TheVariants.{Refused}
use Rattle.model_program.specs.declared.refusal.Refusal.{Refusal}
use Rattle.model_program.specs.declared.refusal.Refusal.TheVariants as refusal

-- ---- the plan

-- a script whose updates together make a variable too large is refused before any node runs, at node 0 and behind its last command
abbrev pub small_or : List Decl → Script → Option ℕ → Option ℕ → Answer
small_or g script failed (Some x) = Err (refusal.TooLarge (length script.commands + 1) 0 (name_at g x))
small_or g script failed None = Ok (Lived g script failed)

-- and one with a command that such nodes don't know before that
abbrev pub live_or : List Decl → Script → Option ℕ → Option ℕ → Answer
live_or g script failed (Some number) = Err (refusal.NotLive number)
live_or g script failed None = small_or g script failed (too_large g script)

-- the answer of a run in which this is the first command at which a node failed, if one did
abbrev pub live_answer : Option ℕ → List Decl → Script → Answer
live_answer failed g script = live_or g script failed (first_other 1 script.commands)

abbrev pub living_script : Library → Option ℕ → List Decl → Plan
living_script lib failed g = scripting lib g (λ script. Says (live_answer failed g script))

-- graph, script, whether nodes may run it beside each other, and then what they went through
abbrev pub living : Library → Option ℕ → Plan
living lib failed = opening lib (λ g. living_script lib failed g)

-- ---- what a call comes to

-- a text, and the command at which a node failed, if one did: contents of files don't decide which
pub record Output : Type 0 where
  pub text : List ℕ
  pub failed : Option ℕ

-- the call did as the plan says: its text is one of a run in which that node failed, or its failure one to which the plan leads
abbrev pub LiveFollows : Library → List (List ℕ) → View → Result Output Failure → Type 0
LiveFollows lib words v (Ok o) = Follows words v (living lib o.failed) (Ok o.text)
LiveFollows lib words v (Err failure) = Follows words v (living lib None) (Err failure)

-- ---- how it ends

-- a node that failed makes it status 8, with its line
abbrev pub status_behind : Option ℕ → ℕ
status_behind None = 0
status_behind (Some c) = 8

abbrev pub TellsFailed : List (List ℕ) → Option ℕ → Writing → Type 0
TellsFailed words None err = err.after ≡ err.before
TellsFailed words (Some c) err = Tells err (line_of words (Refused (refusal.NotReached c)))

-- The text was written whole; the status is 0, or 8 with its line where a node failed. Or a first part of it, where the count of faults of `out` rose: status 5.
-- A failure writes nothing to `out`, one line to `err`, and has its own status.
unfoldable pub LiveEnds : List (List ℕ) → Result Output Failure → Writing → Writing → ℕ → Type 0
LiveEnds words (Ok o) out err status =
    ((status ≡ status_behind o.failed) × Appends out.before o.text out.after × TellsFailed words o.failed err)
    ⊎ ((status ≡ 5) × (o.text ≢ []) × Rose out.faults_before out.faults_after × AppendsPrefix out.before o.text out.after × Tells err (line (codes "write fault" ∷ [])))
LiveEnds words (Err failure) out err status = (status ≡ status_of failure) × (out.after ≡ out.before) × Tells err (line_of words failure)

-- ---- what is promised

-- the answer to `live` has its cause in these words and contents; which node failed is no matter of these
pub data HasLiveCause (lib : Library) (content : List ℕ → Option (List ℕ)) (words : List (List ℕ)) (failed : Option ℕ) : Answer → Type 0 where
  graph_refused : {x : Refusal} → IsGraphRefused lib content words x → HasLiveCause lib content words failed (Err x)
  script_refused : {g : List Decl} {x : Refusal} → IsGraphTold lib content words g → IsScriptRefused lib content words g x → HasLiveCause lib content words failed (Err x)
  other_word : {g : List Decl} {s : Script} {place : ℕ} → IsGraphTold lib content words g → IsScriptTold lib content words g s → IsFirstOther 1 s.commands place
      → HasLiveCause lib content words failed (Err (refusal.NotLive (1 + place)))
  too_many : {g : List Decl} {s : Script} {x : ℕ} → IsGraphTold lib content words g → IsScriptTold lib content words g s → AreLive s.commands → IsFirstLargeDerived g (eval g (full g s)) x
      → HasLiveCause lib content words failed (Err (refusal.TooLarge (length s.commands + 1) 0 (name_at g x)))
  lived : {g : List Decl} {s : Script} → IsGraphTold lib content words g → IsScriptTold lib content words g s → AreLive s.commands → too_large g s ≡ None → HasLiveCause lib content words failed (Ok (Lived g s failed))

-- the files tell this graph and this script, which nodes may run beside each other
pub record TellsLive (lib : Library) (content : List ℕ → Option (List ℕ)) (words : List (List ℕ)) (g : List Decl) (s : Script) : Type 0 where
  pub graph : IsGraphTold lib content words g
  pub script : IsScriptTold lib content words g s
  pub live : AreLive s.commands
  pub small : too_large g s ≡ None

-- a text of a run was written whole, and told in which node failed, if one did: status 0 or 8
pub record WritesLived (words : List (List ℕ)) (g : List Decl) (s : Script) (out err : Writing) (status : ℕ) : Type 0 where
  pub failed : Option ℕ
  pub status_is : status ≡ status_behind failed
  pub writes : Writes out (Lived g s failed)
  pub tells : TellsFailed words failed err

-- a text of a run was begun, and the count of faults of `out` rose
abbrev pub BeginsLived : List Decl → Script → Writing → ℕ → Type 0
BeginsLived g s out status = (status ≡ 5) × ((failed : Option ℕ) × Begins out (Lived g s failed))

-- A call of `live` that answered this status.
pub record IsLiveAnswered {N : Type 0} (lib : Library) (words : List (List ℕ)) (files : Reading N) (out err : Writing) (status : ℕ) : Type 0 where
  -- contents of files stay, and no count of faults falls
  pub same : AreUnchanged files.content files.before files.after
  pub later : AreLater files.faults files.before files.after
  pub out_later : IsLater out
  pub err_later : IsLater err
  -- it comes to something that follows the plan, and ends by it
  pub ends : (answer : Result Output Failure) × LiveFollows lib words (view_of files) answer × LiveEnds words answer out err status
  -- a refusal that the contents decide has its status, unless memory was wanting or a read of a file to which the plan comes failed
  pub refused : (x : Refusal) → DecidesBy (living lib None) words (view_of files) (Err x) → (status ≡ status_of (Refused x)) ⊎ IsLacking (living lib None) words (view_of files) status
  -- it has its cause in them, one of those that are listed
  pub caused : (failed : Option ℕ) (answer : Answer) → DecidesBy (living lib failed) words (view_of files) answer → HasLiveCause lib (files.content files.before) words failed answer
  -- where the contents tell a script that nodes may run, a text of their stories is written whole, with 0 where no node failed and 8 where one did, naming the least command; or begun with 5 where `out` failed; with the same exception
  pub written : (g : List Decl) (s : Script) → TellsLive lib (files.content files.before) words g s
      → WritesLived words g s out err status ⊎ (BeginsLived g s out status ⊎ IsLacking (living lib None) words (view_of files) status)
  -- and written whole, unless memory was wanting, where nothing failed
  pub complete : (g : List Decl) (s : Script) → TellsLive lib (files.content files.before) words g s → NoFault words (view_of files) (living lib None) → ¬ Rose out.faults_before out.faults_after
      → WritesLived words g s out err status ⊎ (status ≡ 7)
  -- with another status than 0, 5 and 8 nothing is written to `out`
  pub quiet : status ≢ 0 → status ≢ 5 → status ≢ 8 → out.after ≡ out.before
