-- Each answer of a site with its cause, over told contents: one constructor for each cause, and no answer without one.
use Rattle.std.specs.Prelude.{◌≡◌, ◌<◌, ◌≤◌, ◌+◌, ℕ, List, [], length, Option, Some, None, Ok, Err}
use Rattle.model_functions.specs.Library.{Library}
use Rattle.model_graph.specs.Evaluation.{content_at, first_large}
use Rattle.model_graph.specs.Graph.{Decl, name_at}
use Rattle.model_graph.specs.Message.{Message}
use Rattle.model_graph.specs.Spelling.{spelled}
use Rattle.model_states.specs.Content.{size_of, row_limit}
use Rattle.model_states.specs.Counts.{count_at}
use Rattle.model_states.specs.Update.{Op}
use Rattle.model_readings.specs.Graph.{graph_of}
use Rattle.model_readings.specs.declared.graph_why.GraphWhy.{GraphWhy}
use Rattle.model_scripts.specs.Script.{script_of}
use Rattle.model_scripts.specs.declared.script_why.ScriptWhy.{ScriptWhy}
use Rattle.model_scripts.specs.declared.script_why.ScriptWhy.TheVariants.{NoSuchNode}
use Rattle.model_wire.specs.Message.{decoded}
use Rattle.model_wire.specs.declared.wire_why.WireWhy.{WireWhy}
use Rattle.model_world.specs.Command.{Command, Script}
use Rattle.model_world.specs.World.{Peer, message_at, updated, delivered, shown_at}
use Rattle.model_program.specs.Plan.{word_at, file_limit}
use Rattle.model_program.specs.Told.{IsFileTold, IsOfGraph}
use Rattle.model_program.specs.declared.refusal.Refusal.TheVariants as shared
use Rattle.model_program.specs.declared.state_why.StateWhy.TheVariants.{Wire, WrongGraph}
use Rattle.model_site.specs.Plan.{Answer}
use Rattle.model_site.specs.Program.{site_of, graph_file, state_file, script_file}
use Rattle.model_site.specs.Site.{IsOwn, IsFirstOther, update_limit, updates_done}
use Rattle.model_site.specs.Told.{IsGraphTold, IsOpened, IsSite, heard, AreTaken, IsBefore}
use Rattle.model_site.specs.declared.site_refusal.SiteRefusal.{SiteRefusal}
use Rattle.model_site.specs.declared.site_refusal.SiteRefusal.TheVariants.{Shared, NotLocal, FileTooLarge, UpdatesFull}

-- file f is too long, no message, of another graph or number of nodes than the replica before it, or makes a source of it too large
pub data IsFileRefused (content : List ℕ → Option (List ℕ)) (words : List (List ℕ)) (p : ℕ) (g : List Decl) (f : ℕ) (r : Peer) : SiteRefusal → Type 0 where
  file_long : {bytes : List ℕ} → content (word_at words f) ≡ Some bytes → file_limit < length bytes → IsFileRefused content words p g f r (Shared (shared.TooLong f))
  no_message : {bytes : List ℕ} {place : ℕ} {why : WireWhy} → IsFileTold content words f bytes → decoded bytes ≡ Err (place, why) → IsFileRefused content words p g f r (Shared (shared.State f place (Wire why)))
  wrong_graph : {bytes : List ℕ} {m : Message} → IsFileTold content words f bytes → decoded bytes ≡ Ok m → ¬ (IsOfGraph g m × (length m.counts ≡ length r.counts))
      → IsFileRefused content words p g f r (Shared (shared.State f 0 WrongGraph))
  source_large : {bytes : List ℕ} {m : Message} {x : ℕ} → IsFileTold content words f bytes → decoded bytes ≡ Ok m → IsOfGraph g m → length m.counts ≡ length r.counts
      → first_large 0 (delivered g m r).contents ≡ Some x → IsFileRefused content words p g f r (FileTooLarge f p (name_at g x))

-- the update of a command is one too many, or makes its source too large
pub data IsUpdateRefused (p : ℕ) (g : List Decl) (r : Peer) (x : ℕ) (op : Op) (number : ℕ) : SiteRefusal → Type 0 where
  updates_full : update_limit ≤ count_at r.counts p → IsUpdateRefused p g r x op number (UpdatesFull number p)
  update_large : count_at r.counts p < update_limit → row_limit < size_of (content_at (updated p x op r).contents x) → IsUpdateRefused p g r x op number (Shared (shared.TooLarge number p (name_at g x)))

-- the answer has its cause in these words and contents
pub data HasCause (lib : Library) (content : List ℕ → Option (List ℕ)) (words : List (List ℕ)) : Answer → Type 0 where
  usage : site_of words ≡ None → HasCause lib content words (Err (Shared shared.Usage))
  -- the graph's file
  graph_long : {p : ℕ} {bytes : List ℕ} → site_of words ≡ Some p → content (word_at words graph_file) ≡ Some bytes → file_limit < length bytes
      → HasCause lib content words (Err (Shared (shared.TooLong graph_file)))
  graph_bad : {p : ℕ} {bytes : List ℕ} {number : ℕ} {why : GraphWhy} → site_of words ≡ Some p → IsFileTold content words graph_file bytes → graph_of lib bytes ≡ Err (number, why)
      → HasCause lib content words (Err (Shared (shared.Graph number why)))
  -- the script's file
  script_long : {p : ℕ} {g : List Decl} {bytes : List ℕ} → site_of words ≡ Some p → IsGraphTold lib content words g → content (word_at words script_file) ≡ Some bytes → file_limit < length bytes
      → HasCause lib content words (Err (Shared (shared.TooLong script_file)))
  script_bad : {p : ℕ} {g : List Decl} {bytes : List ℕ} {number : ℕ} {why : ScriptWhy} → site_of words ≡ Some p → IsGraphTold lib content words g → IsFileTold content words script_file bytes → script_of lib g bytes ≡ Err (number, why)
      → HasCause lib content words (Err (Shared (shared.Script number why)))
  no_such_node : {p : ℕ} {g : List Decl} {s : Script} → IsOpened lib content words p g s → s.nodes ≤ p → HasCause lib content words (Err (Shared (shared.Script (length s.commands + 1) NoSuchNode)))
  not_local : {p : ℕ} {g : List Decl} {s : Script} {place : ℕ} → IsOpened lib content words p g s → p < s.nodes → IsFirstOther p s.commands place → HasCause lib content words (Err (NotLocal (1 + place)))
  -- the state and the files
  state_refused : {p : ℕ} {g : List Decl} {s : Script} {x : SiteRefusal} → IsSite lib content words p g s → ¬ IsFileTold content words state_file [] → IsFileRefused content words p g state_file (heard g s.nodes []) x
      → HasCause lib content words (Err x)
  file_refused : {p : ℕ} {g : List Decl} {s : Script} {f : ℕ} {ms : List Message} {x : SiteRefusal} → IsSite lib content words p g s → AreTaken content words g s.nodes f ms → f < length words → IsFileRefused content words p g f (heard g s.nodes ms) x
      → HasCause lib content words (Err x)
  -- the updates
  update_refused : {p : ℕ} {g : List Decl} {s : Script} {ms : List Message} {k : Command} {number : ℕ} {last : Peer} {x : ℕ} {op : Op} {e : SiteRefusal} → IsSite lib content words p g s → AreTaken content words g s.nodes (length words) ms
      → IsBefore p g (heard g s.nodes ms) s.commands k number last → IsOwn p k x op → IsUpdateRefused p g last x op number e → HasCause lib content words (Err e)
  variable_large : {p : ℕ} {g : List Decl} {s : Script} {ms : List Message} {last : Peer} {x : ℕ} → IsSite lib content words p g s → AreTaken content words g s.nodes (length words) ms
      → updates_done p g 1 (heard g s.nodes ms) s.commands ≡ Ok last → first_large 0 (shown_at g last) ≡ Some x → HasCause lib content words (Err (Shared (shared.TooLarge (length s.commands + 1) p (name_at g x))))
  written : {p : ℕ} {g : List Decl} {s : Script} {ms : List Message} {last : Peer} → IsSite lib content words p g s → AreTaken content words g s.nodes (length words) ms
      → updates_done p g 1 (heard g s.nodes ms) s.commands ≡ Ok last → first_large 0 (shown_at g last) ≡ None → HasCause lib content words (Ok (spelled (message_at g last)))
