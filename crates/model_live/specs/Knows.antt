-- What a node has in its journal while it runs beside others.
use Rattle.std.specs.Prelude.{◌≡◌, ℕ, ◌<◌, ◌≤◌, List, [], length}
use Rattle.model_states.specs.Counts.{count_at}
use Rattle.model_graph.specs.Graph.{Counter, Decl, kind_at}
use Rattle.model_graph.specs.Evaluation.{content_at}
use Rattle.model_journal.specs.Callers.{AreMadeByTheirCallers}
use Rattle.model_journal.specs.Entry.{Entry}
use Rattle.model_journal.specs.Journal.{declared}
use Rattle.model_journal.specs.Legal.{IsLegal}
use Rattle.model_core.specs.Peer.{peer_of}
use Rattle.model_runs.specs.Calls.{frame_of}
use Rattle.model_world.specs.Command.{Script}
use Rattle.model_live.specs.Lived.{AreOfOthers}
use Rattle.model_live.specs.Together.{own_updates, AreWithin}

-- A journal of node p, fed by caller 0 and without declarations, with messages of other nodes alone. It holds no more than all updates of the script together. Of its own updates it has as many as it made, and of each counter its own count is what it counted: nobody tells it more of these.
pub record Knows (g : List Decl) (script : Script) (p made : ℕ) (counted : ℕ → ℕ) (entries : List Entry) : Type 0 where
  pub legal : IsLegal (frame_of g script.nodes p) entries
  pub callers : AreMadeByTheirCallers entries
  pub undeclared : declared entries ≡ []
  pub updates : count_at (peer_of (frame_of g script.nodes p) entries).counts p ≡ made
  pub totals : (x : ℕ) → x < length g → kind_at g x ≡ Counter → count_at (content_at (peer_of (frame_of g script.nodes p) entries).contents x).counts p ≡ counted x
  pub known : (q : ℕ) → q < script.nodes → count_at (peer_of (frame_of g script.nodes p) entries).counts q ≤ own_updates g script q
  pub within : AreWithin g script (peer_of (frame_of g script.nodes p) entries).contents
  pub others : AreOfOthers script.nodes p entries
