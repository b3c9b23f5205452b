-- Where a run stops, in the words of its worlds: the world after some first commands is one in which the next command can't be done.
use Rattle.std.specs.Prelude.{◌≡◌, ℕ, ◌+◌, ◌<◌, List, [], ◌∷◌, ◌++◌, length, Ok, Err}
use Rattle.model_graph.specs.Graph.{Decl}
use Rattle.model_graph.specs.Limit.{AreWithinLimit, IsFirstLarge}
use Rattle.model_world.specs.Command.{Command}
use Rattle.model_world.specs.World.{Peer, Run, Point, act, step, peer_at, shown_at}
use Rattle.model_world.specs.declared.stop.Stop.{Stop}

-- from the first world these commands, of which the first has number c, lead to the second world
pub data IsAfter : ℕ → Run → List Command → Run → Type 0 where
  none : {c : ℕ} {run : Run} → IsAfter c run [] run
  more : {c : ℕ} {run next last : Run} {k : Command} {rest : List Command} → step c run k ≡ Ok next → IsAfter (c + 1) next rest last → IsAfter c run (k ∷ rest) last

-- the first of the commands that are left, or the point at the script's end, can't be done
abbrev pub Halts : ℕ → Run → List Command → Stop → Type 0
Halts c run [] stop = act c run Point ≡ Err stop
Halts c run (k ∷ rest) stop = step c run k ≡ Err stop

-- the run stops there: the commands before were done
pub record StopsAt (c : ℕ) (run : Run) (commands : List Command) (stop : Stop) : Type 0 where
  pub done : List Command
  pub rest : List Command
  pub last : Run
  pub all : done ++ rest ≡ commands
  pub after : IsAfter c run done last
  pub halts : Halts (c + length done) last rest stop

-- the run comes to its end: every command was done, and the point at the end changes nothing
pub record EndsAt (c : ℕ) (run : Run) (commands : List Command) (last : Run) : Type 0 where
  pub after : IsAfter c run commands last
  pub point : act (c + length commands) last Point ≡ Ok last

-- at node p variable x shows too many rows; before it at this node none does, and at no earlier node
pub record IsFirstShown (g : List Decl) (peers : List Peer) (p x : ℕ) : Type 0 where
  pub node : p < length peers
  pub here : IsFirstLarge (shown_at g (peer_at peers p)) x
  pub before : (q : ℕ) → q < p → AreWithinLimit (shown_at g (peer_at peers q))

-- no node shows too many rows of a variable
abbrev pub AreAllWithinLimit : List Decl → List Peer → Type 0
AreAllWithinLimit g peers = (p : ℕ) → p < length peers → AreWithinLimit (shown_at g (peer_at peers p))
