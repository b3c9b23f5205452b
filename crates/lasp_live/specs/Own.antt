-- What a node did itself, as it counts it while it runs.
use Rattle.std.specs.Prelude.{◌≡◌, ◌≢◌, ℕ, ◌+◌, ◌*◌, ◌<◌, ◌≤◌, List, length, slice_index_or, take}
use Rattle.model_graph.specs.Graph.{Counter, Decl, kind_at}
use Rattle.model_graph.specs.Evaluation.{content_at}
use Rattle.model_states.specs.Counts.{count_at}
use Rattle.model_states.specs.Update.{Op}
use Rattle.model_states.specs.Update as op
use Rattle.model_world.specs.Command.{Script}
use Rattle.model_world.specs.World.{Peer, fresh_peer}
use Rattle.model_live.specs.Steps.{Step, steps}
use Rattle.model_live.specs.Together.{after_steps}
use Rattle.lasp_live.specs.declared.own.Own.{Own}

-- what node p is at before command i, counted from 0
abbrev pub steps_before : Script → ℕ → ℕ → List Step
steps_before script p i = steps p 1 (take i script.commands)

-- the node after these steps of its own, having heard of nobody
abbrev pub peer_before : List Decl → Script → ℕ → ℕ → Peer
peer_before g script p i = after_steps p (steps_before script p i) (fresh_peer g script.nodes)

-- the most that one update counts up
abbrev pub most_counted : ℕ
most_counted = 4294967295

-- how much the node counted of variable x
abbrev pub total_in : Own → ℕ → ℕ
total_in own x = slice_index_or own.totals.items x 0

-- it has counted the node's own updates before command i, and for each counter the sum of what it counted up; few commands count little
pub record CountsOwn (g : List Decl) (script : Script) (p i : ℕ) (own : Own) : Type 0 where
  pub size : length own.totals.items ≡ length g
  pub updates : own.updates ≡ count_at (peer_before g script p i).counts p
  pub totals : (x : ℕ) → x < length g → kind_at g x ≡ Counter → total_in own x ≡ count_at (content_at (peer_before g script p i).contents x).counts p
  pub few : own.updates ≤ i
  pub little : (x : ℕ) → total_in own x ≤ i * most_counted

-- how much an operation counts up
abbrev pub counted_by : Op → ℕ
counted_by (op.Add v) = 0
counted_by (op.Remove v) = 0
counted_by (op.Insert v) = 0
counted_by (op.Inc by) = by
counted_by (op.Max n) = 0
counted_by (op.Join s) = 0

-- one more update, of variable x by this operation
pub record HasUpdated (x : ℕ) (o : Op) (old new : Own) : Type 0 where
  pub updates : new.updates ≡ old.updates + 1
  pub size : length new.totals.items ≡ length old.totals.items
  pub here : total_in new x ≡ total_in old x + counted_by o
  pub others : (y : ℕ) → y ≢ x → total_in new y ≡ total_in old y
  pub little : counted_by o ≤ most_counted
