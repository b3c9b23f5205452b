-- What the told contents of the files that a site's words name are read as.
use Rattle.std.specs.Prelude.{◌≡◌, ◌<◌, ◌+◌, ℕ, List, [], ◌∷◌, ◌++◌, length, Option, Some, None, Ok}
use Rattle.model_functions.specs.Library.{Library}
use Rattle.model_graph.specs.Graph.{Decl}
use Rattle.model_graph.specs.Evaluation.{first_large}
use Rattle.model_graph.specs.Message.{Message}
use Rattle.model_graph.specs.Spelling.{spelled}
use Rattle.model_states.specs.Counts.{count_at, AreCountsAtMost}
use Rattle.model_wire.specs.Message.{decoded}
use Rattle.model_world.specs.Command.{Command, Script}
use Rattle.model_world.specs.World.{Peer, fresh_peer, sent_number, delivered, message_at}
use Rattle.model_readings.specs.Graph.{graph_of}
use Rattle.model_scripts.specs.Script.{script_of}
use Rattle.model_program.specs.Merge.{taking}
use Rattle.model_program.specs.Told.{IsFileTold, IsOfGraph}
use Rattle.model_site.specs.Program.{site_of, graph_file, state_file, script_file, first_file}
use Rattle.model_site.specs.Site.{AreOwn, updates_done}

-- the graph's file is told and not too long, and its bytes are this graph
pub record IsGraphTold (lib : Library) (content : List ℕ → Option (List ℕ)) (words : List (List ℕ)) (g : List Decl) : Type 0 where
  pub bytes : List ℕ
  pub file : IsFileTold content words graph_file bytes
  pub read : graph_of lib bytes ≡ Ok g

-- the script's file is told and not too long, and its bytes are this script against the graph
pub record IsScriptTold (lib : Library) (content : List ℕ → Option (List ℕ)) (words : List (List ℕ)) (g : List Decl) (s : Script) : Type 0 where
  pub bytes : List ℕ
  pub file : IsFileTold content words script_file bytes
  pub read : script_of lib g bytes ≡ Ok s

-- the words are those of site p, and graph and script are told
pub record IsOpened (lib : Library) (content : List ℕ → Option (List ℕ)) (words : List (List ℕ)) (p : ℕ) (g : List Decl) (s : Script) : Type 0 where
  pub site : site_of words ≡ Some p
  pub graph : IsGraphTold lib content words g
  pub script : IsScriptTold lib content words g s

-- and the script has the node, and updates of it alone
pub record IsSite (lib : Library) (content : List ℕ → Option (List ℕ)) (words : List (List ℕ)) (p : ℕ) (g : List Decl) (s : Script) : Type 0 where
  pub opened : IsOpened lib content words p g s
  pub node : p < s.nodes
  pub own : AreOwn p s.commands

-- a fresh replica of a graph among so many nodes that took all of the messages
abbrev pub heard : List Decl → ℕ → List Message → Peer
heard g nodes ms = taking g (fresh_peer g nodes) ms

-- The file is told and not too long, and its bytes are this message. It is of the graph and of as many nodes as the replica, and joined into it no source is too large.
pub record IsTaken (content : List ℕ → Option (List ℕ)) (words : List (List ℕ)) (g : List Decl) (f : ℕ) (r : Peer) (m : Message) : Type 0 where
  pub bytes : List ℕ
  pub file : IsFileTold content words f bytes
  pub read : decoded bytes ≡ Ok m
  pub graph : IsOfGraph g m
  pub nodes : length m.counts ≡ length r.counts
  pub small : first_large 0 (delivered g m r).contents ≡ None

-- these are the messages of the state, unless it has no bytes, and of the files before file f, each taken in by the replica that took in those before it
pub data AreTaken (content : List ℕ → Option (List ℕ)) (words : List (List ℕ)) (g : List Decl) (nodes : ℕ) : ℕ → List Message → Type 0 where
  nothing : IsFileTold content words state_file [] → AreTaken content words g nodes first_file []
  state : {m : Message} → ¬ IsFileTold content words state_file [] → IsTaken content words g state_file (heard g nodes []) m → AreTaken content words g nodes first_file (m ∷ [])
  more : {f : ℕ} {ms : List Message} {m : Message} → AreTaken content words g nodes f ms → IsTaken content words g f (heard g nodes ms) m → AreTaken content words g nodes (f + 1) (ms ++ m ∷ [])

-- replica p, which was so before the first of its commands, is so before this one, which has this number
pub record IsBefore (p : ℕ) (g : List Decl) (r : Peer) (commands : List Command) (k : Command) (number : ℕ) (last : Peer) : Type 0 where
  pub done : List Command
  pub rest : List Command
  pub all : done ++ k ∷ rest ≡ commands
  pub number_is : number ≡ length done + 1
  pub reached : updates_done p g 1 r done ≡ Ok last

-- The state of these bytes counts what any of the messages counts, and the replica's own updates behind those that it had made.
pub record IsKept (p : ℕ) (g : List Decl) (s : Script) (messages : List Message) (bytes : List ℕ) : Type 0 where
  pub last : Peer
  pub written : spelled (message_at g last) ≡ bytes
  pub taken : (i : ℕ) → AreCountsAtMost (sent_number messages i).counts last.counts
  pub own : count_at last.counts p ≡ count_at (heard g s.nodes messages).counts p + length s.commands
