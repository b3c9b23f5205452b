-- A call of a site over its files and outputs, and all that is promised of it.
use Rattle.std.specs.Prelude.{◌≡◌, ◌≢◌, ◌<◌, ◌⊎◌, ℕ, List, [], length, Option, Some, None, Result, Ok, Err}
use Rattle.std.specs.List.{AllByRecursion}
use Rattle.model_functions.specs.Library.{Library}
use Rattle.model_graph.specs.Graph.{Decl}
use Rattle.model_graph.specs.Message.{Message}
use Rattle.model_graph.specs.Spelling.{spelled}
use Rattle.model_values.specs.Faults.{Rose}
use Rattle.model_values.specs.Told.{Appends, AppendsPrefix}
use Rattle.model_world.specs.Command.{Script}
use Rattle.model_world.specs.World.{Run, peer_at, message_at}
use Rattle.model_program.specs.Call.{AreUnchanged, AreLater, IsLater, Reading, view_of}
use Rattle.model_program.specs.Ends.{Writing}
use Rattle.model_program.specs.Follows.{View}
use Rattle.model_site.specs.Cause.{HasCause}
use Rattle.model_site.specs.Ends.{Ends, NoFault, MeetsFault, IsSiteStatus}
use Rattle.model_site.specs.Follows.{Follows}
use Rattle.model_site.specs.History.{SiteCall, Sites, taken_by, IsCallOf}
use Rattle.model_site.specs.Line.{status_of}
use Rattle.model_site.specs.Plan.{Answer, told_answer}
use Rattle.model_site.specs.Program.{site_of, plan}
use Rattle.model_site.specs.Told.{IsSite, AreTaken, IsKept}
use Rattle.model_site.specs.World.{IsSiteWorld}
use Rattle.model_site.specs.declared.site_failure.SiteFailure.{SiteFailure}
use Rattle.model_site.specs.declared.site_failure.SiteFailure.TheVariants.{Refused}
use Rattle.model_site.specs.declared.site_refusal.SiteRefusal.{SiteRefusal}

-- the bytes were written
abbrev pub Writes : Writing → List ℕ → Type 0
Writes s bytes = Appends s.before bytes s.after

-- the bytes, of which there are some, were begun, and the count of faults rose
abbrev pub Begins : Writing → List ℕ → Type 0
Begins s bytes = (bytes ≢ []) × Rose s.faults_before s.faults_after × AppendsPrefix s.before bytes s.after

-- the contents that are told decide this answer to the words
abbrev pub Decides : Library → List (List ℕ) → View → Answer → Type 0
Decides lib words v answer = told_answer v.content words (plan lib words) ≡ Some answer

-- memory was wanting, or a read of a file to which the plan of the words comes failed
abbrev pub IsLacking : Library → List (List ℕ) → View → ℕ → Type 0
IsLacking lib words v status = (status ≡ 7) ⊎ ((status ≡ 4) × MeetsFault words v (plan lib words))

-- the told contents are those of site p of the script's nodes over the graph, and of the messages that it takes in
pub record TellsSite (lib : Library) (content : List ℕ → Option (List ℕ)) (words : List (List ℕ)) (p : ℕ) (g : List Decl) (s : Script) (messages : List Message) : Type 0 where
  pub site : IsSite lib content words p g s
  pub taken : AreTaken content words g s.nodes (length words) messages

-- and they are the call's among the sites: the states are the site's own and those of its files, all written by sites, and the commands are the call's
pub record TellsCall (lib : Library) (content : List ℕ → Option (List ℕ)) (words : List (List ℕ)) (g : List Decl) (s : Script) (sites : Sites) (k : SiteCall) : Type 0 where
  pub site : TellsSite lib content words k.site g s (taken_by sites k)
  pub commands : s.commands ≡ k.commands
  pub files : AllByRecursion (λ i. i < length sites.written) k.files

-- A call of a site on these words, over these files and both outputs, that answered this status.
pub record IsAnswered {N : Type 0} (lib : Library) (words : List (List ℕ)) (files : Reading N) (out err : Writing) (status : ℕ) : Type 0 where
  -- contents of files stay, and no count of faults falls
  pub same : AreUnchanged files.content files.before files.after
  pub later : AreLater files.faults files.before files.after
  pub out_later : IsLater out
  pub err_later : IsLater err
  -- some answer follows the plan of the words, and the call ends by it
  pub ends : (answer : Result (List ℕ) SiteFailure) × Follows words (view_of files) (plan lib words) answer × Ends words answer out err status
  -- an answer that the contents decide has its cause in them, one of those that are listed
  pub caused : (answer : Answer) → Decides lib words (view_of files) answer → HasCause lib (files.content files.before) words answer
  -- a refusal that the contents decide has its status, unless memory was wanting or a read of a file to which the plan comes failed
  pub refused : (x : SiteRefusal) → Decides lib words (view_of files) (Err x) → (status ≡ status_of (Refused x)) ⊎ IsLacking lib words (view_of files) status
  -- bytes that the contents decide are written whole with status 0, or begun with 5 where `out` failed, with the same exception
  pub written : (bytes : List ℕ) → Decides lib words (view_of files) (Ok bytes)
      → ((status ≡ 0) × Writes out bytes) ⊎ (((status ≡ 5) × Begins out bytes) ⊎ IsLacking lib words (view_of files) status)
  -- bytes that the contents decide are written whole with status 0, unless memory was wanting, where nothing failed
  pub complete : (bytes : List ℕ) → Decides lib words (view_of files) (Ok bytes) → NoFault words (view_of files) (plan lib words) → ¬ Rose out.faults_before out.faults_after
      → ((status ≡ 0) × Writes out bytes) ⊎ (status ≡ 7)
  -- with status 0 the bytes are the spelling of the message of replica p in the world in which it took these messages and then made the script's updates
  pub world : (p : ℕ) (g : List Decl) (s : Script) (messages : List Message) → TellsSite lib (files.content files.before) words p g s messages → status ≡ 0
      → (run : Run) × IsSiteWorld p g s.nodes messages s.commands run × Writes out (spelled (message_at g (peer_at run.peers p)))
  -- with status 0 the state that is written counts all that the messages count, and the script's updates one by one
  pub kept : (p : ℕ) (g : List Decl) (s : Script) (messages : List Message) → TellsSite lib (files.content files.before) words p g s messages → status ≡ 0 → (bytes : List ℕ) × IsKept p g s messages bytes × Writes out bytes
  -- with status 0 a call on the states of sites is one among them, of which it is said what holds over time
  pub called : (g : List Decl) (s : Script) (sites : Sites) (k : SiteCall) → TellsCall lib (files.content files.before) words g s sites k → status ≡ 0 → (bytes : List ℕ) × IsCallOf g s.nodes sites k bytes × Writes out bytes
  -- there is no other status than these
  pub few : IsSiteStatus status
  -- words of no listed form: no file is read
  pub unread : site_of words ≡ None → files.after ≡ files.before
  -- with another status than 0 and 5 nothing is written to `out`
  pub quiet : status ≢ 0 → status ≢ 5 → out.after ≡ out.before
