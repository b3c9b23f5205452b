-- The world of a site: one in which the states that it takes in were sent. Its replica takes them, and then makes the updates of its script.
use Rattle.std.specs.Prelude.{◌≡◌, ℕ, ◌+◌, List, [], ◌∷◌, length, map, replicate, None, Result, Ok}
use Rattle.std.specs.List.{range_with_len}
use Rattle.model_graph.specs.Chain.{◌>>=◌}
use Rattle.model_graph.specs.Graph.{Decl}
use Rattle.model_graph.specs.Evaluation.{first_large}
use Rattle.model_graph.specs.Message.{Message}
use Rattle.model_world.specs.Command.{Command}
use Rattle.model_world.specs.World.{Run, Take, fresh_peer, peer_at, shown_at, each, step}
use Rattle.model_world.specs.declared.stop.Stop.{Stop}

-- a world of so many fresh replicas, in which these messages were sent
abbrev pub sent_world : List Decl → ℕ → List Message → Run
sent_world g nodes messages = record { graph = g; peers = replicate nodes (fresh_peer g nodes); sent = messages; marks = []; reads = []; text = [] }

-- the commands that are left, the first of them being number c
unfoldable pub played : ℕ → Run → List Command → Result Run Stop
played c run [] = Ok run
played c run (k ∷ rest) = step c run k >>= (λ next. played (c + 1) next rest)

-- in this world replica p took the messages one after the other, then the commands were done, and what it shows is within the limit
pub record IsSiteWorld (p : ℕ) (g : List Decl) (nodes : ℕ) (messages : List Message) (commands : List Command) (run : Run) : Type 0 where
  pub received : Run
  pub takes : each 0 (sent_world g nodes messages) (map (Take p) (range_with_len 0 (length messages))) ≡ Ok received
  pub updates : played 1 received commands ≡ Ok run
  pub shown : first_large 0 (shown_at run.graph (peer_at run.peers p)) ≡ None
