-- An example: two nodes, one set, a message that is lost and one that comes twice.
use Rattle.std.specs.Prelude.{ℕ, pos, List, [], ◌∷◌, Result, Ok, Err}
use Rattle.model_values.specs.Value.{int}
use Rattle.model_graph.specs.Graph.{OrSet, Decl}
use Rattle.model_world.specs.Command.{Command, Add, Send, Deliver}
use Rattle.model_world.specs.World.{Peer, no_peer, peer_at}
use Rattle.model_world.specs.declared.stop.Stop.{Stop}
use Rattle.model_world.specs.Follow.{Followed, follow, begin}

-- the set a
abbrev pub example_graph : List Decl
example_graph = record { name = 97 ∷ []; kind = OrSet } ∷ []

-- node 0 adds 5 and sends, which is lost; it adds 7 and sends again; node 1 adds 5 of its own and takes the second message
abbrev pub example_commands : List Command
example_commands = Add 0 0 (int (pos 5)) ∷ Send 0 ∷ Add 0 0 (int (pos 7)) ∷ Send 0 ∷ Add 1 0 (int (pos 5)) ∷ Deliver 1 1 ∷ []

-- the second message comes again, and then the first one after all
abbrev pub example_repeats : List Command
example_repeats = Deliver 1 1 ∷ Deliver 1 0 ∷ []

abbrev pub node_of : Result Followed Stop → ℕ → Peer
node_of (Ok f) p = peer_at f.run.peers p
node_of (Err stop) p = no_peer

-- a node after commands
abbrev pub example_node : List Command → ℕ → Peer
example_node commands p = node_of (follow 1 (begin example_graph 2) commands) p
