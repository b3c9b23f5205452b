-- A run with what its updates brought: a machine beside the run, which changes nothing of it.
use Rattle.std.specs.Prelude.{ℕ, ◌+◌, List, [], ◌∷◌, ◌++◌, Option, Some, None, Result, Ok, Err, slice_set, replicate}
use Rattle.model_values.specs.Value.{Val}
use Rattle.model_states.specs.Counts.{count_at}
use Rattle.model_states.specs.Update.{Op, Add, delta}
use Rattle.model_graph.specs.Chain.{◌>>=◌}
use Rattle.model_graph.specs.Graph.{Decl}
use Rattle.model_graph.specs.Evaluation.{content_at}
use Rattle.model_world.specs.Command.{Command}
use Rattle.model_world.specs.World.{Peer, Run, Act, Update, Keep, Point, peer_at, start, effect, act, acts}
use Rattle.model_world.specs.declared.stop.Stop.{Stop}
use Rattle.model_world.specs.Delta.{Delta, deltas_at}

-- a run, the deltas of each replica's updates in order, and the variable of each mark
pub record Followed : Type 0 where
  pub run : Run
  pub deltas : List (List Delta)
  pub marked : List ℕ

-- the value that gets a fresh token
abbrev pub added_by : Op → Option Val
added_by (Add v) = Some v
added_by _ = None

-- what an update of variable x brings at replica p
abbrev pub delta_of : Peer → ℕ → ℕ → Op → Delta
delta_of r p x op = record { var = x; added = added_by op; content = delta op (content_at r.contents x) p (count_at r.counts p + 1) }

-- the deltas after an act
abbrev pub deltas_after : Run → List (List Delta) → Act → List (List Delta)
deltas_after run all (Update p x op) = slice_set all p (deltas_at all p ++ delta_of (peer_at run.peers p) p x op ∷ [])
deltas_after run all _ = all

-- the marked variables after an act
abbrev pub marked_after : List ℕ → Act → List ℕ
marked_after marked (Keep p x) = marked ++ x ∷ []
marked_after marked _ = marked

-- what an act leads to, the run being what it is after the act
abbrev pub with_run : Followed → Act → Run → Followed
with_run f a next = record { run = next; deltas = deltas_after f.run f.deltas a; marked = marked_after f.marked a }

-- an act that can be done leads to this, and acts one after the other to that
abbrev pub followed : Followed → Act → Followed
followed f a = with_run f a (effect f.run a)

abbrev pub afters : Followed → List Act → Followed
afters f [] = f
afters f (a ∷ rest) = afters (followed f a) rest

abbrev pub follow_act : ℕ → Followed → Act → Result Followed Stop
follow_act c f a = act c f.run a >>= (λ next. Ok (with_run f a next))

abbrev pub follow_each : ℕ → Followed → List Act → Result Followed Stop
follow_each c f [] = Ok f
follow_each c f (a ∷ rest) = follow_act c f a >>= (λ next. follow_each c next rest)

abbrev pub follow_step : ℕ → Followed → Command → Result Followed Stop
follow_step c f k = follow_each c f (acts f.run k)

-- the place after some commands, the first of which has number c
unfoldable pub follow : ℕ → Followed → List Command → Result Followed Stop
follow c f [] = Ok f
follow c f (k ∷ rest) = follow_step c f k >>= (λ next. follow (c + 1) next rest)

-- the run of a place, where the script's end is a point
abbrev pub pointed : ℕ → Result Followed Stop → Result Run Stop
pointed c (Ok last) = act c last.run Point
pointed c (Err stop) = Err stop

-- before the first command nobody updated anything
abbrev pub begin : List Decl → ℕ → Followed
begin g nodes = record { run = start g nodes; deltas = replicate nodes []; marked = [] }
