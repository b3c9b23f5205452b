-- Replicas of one set without tombstones that do the commands of a script: each keeps its state, and sends it whole.
use Rattle.std.specs.Prelude.{◌≡◌, ℕ, true, List, [], ◌∷◌, ◌++◌, length, slice_index_or, slice_set, replicate, codes}
use Rattle.model_values.specs.Value.{Val}
use Rattle.model_values.specs.Token.{Tok}
use Rattle.model_sets.specs.Rows.{mark, HasRow, IsDeadIn}
use Rattle.model_states.specs.Update.{Op, Add, Remove}
use Rattle.model_graph.specs.Graph.{Decl, OrSet}
use Rattle.model_graph.specs.Evaluation.{rows_at}
use Rattle.model_world.specs.Command as command
use Rattle.model_world.specs.Command.{Command}
use Rattle.model_world.specs.World.{Peer, Act, Update, Post, Take, Point, Show, sync_acts}
use Rattle.model_dots.specs.Dots.{Dots, is_counted, no_dots, join_dots, add_dot, remove_dots, dots_of}

-- the graph: one observed-remove set, named a
abbrev pub one_set : List Decl
one_set = record { name = codes "a"; kind = OrSet } ∷ []

-- the state of each replica, and each one that was sent
pub record DotWorld : Type 0 where
  pub nodes : List Dots
  pub sent : List Dots

abbrev pub dots_at : List Dots → ℕ → Dots
dots_at states i = slice_index_or states i (no_dots 0)

-- a state stands for a replica with tombstones: it has the live rows of its set, and its counts
abbrev pub StandsFor : Dots → Peer → Type 0
StandsFor s r = s ≡ dots_of (rows_at r.contents 0) r.counts

-- Of a row of another replica whose update a state counts and that it doesn't have, the state tells that it was removed: at the replica that it stands for the row is dead.
abbrev pub LacksTheRemoved : Dots → Peer → Peer → Type 0
LacksTheRemoved s r other = (v : Val) (t : Tok) → HasRow (rows_at other.contents 0) v t → is_counted s.counts t ≡ true → mark s.rows v t ≡ 0 → IsDeadIn (rows_at r.contents 0) v t

abbrev pub dot_start : ℕ → DotWorld
dot_start nodes = record { nodes = replicate nodes (no_dots nodes); sent = [] }

-- the words that such replicas know
abbrev pub IsDotCommand : Command → Type 0
IsDotCommand (command.Add p x v) = Unit {0}
IsDotCommand (command.Remove p x v) = Unit {0}
IsDotCommand (command.Send p) = Unit {0}
IsDotCommand (command.Deliver p i) = Unit {0}
IsDotCommand command.Sync = Unit {0}
IsDotCommand command.Settle = Unit {0}
IsDotCommand (command.Print p x) = Unit {0}
IsDotCommand _ = ⊥

abbrev pub AreDotCommands : List Command → Type 0
AreDotCommands [] = Unit {0}
AreDotCommands (k ∷ rest) = IsDotCommand k × AreDotCommands rest

-- what a command does, the numbers of nodes and of messages being known
abbrev pub dot_acts : DotWorld → Command → List Act
dot_acts w (command.Add p x v) = Update p x (Add v) ∷ []
dot_acts w (command.Remove p x v) = Update p x (Remove v) ∷ []
dot_acts w (command.Send p) = Post p ∷ []
dot_acts w (command.Deliver p i) = Take p i ∷ []
dot_acts w command.Sync = sync_acts (length w.nodes) (length w.sent)
dot_acts w command.Settle = Point ∷ []
dot_acts w (command.Print p x) = Point ∷ Show p x ∷ []
dot_acts w _ = []

-- a state after an update of node p
abbrev pub dots_updated : ℕ → Op → Dots → Dots
dots_updated p (Add v) s = add_dot v p s
dots_updated p (Remove v) s = remove_dots v p s
dots_updated p _ s = s

abbrev pub dot_act : DotWorld → Act → DotWorld
dot_act w (Update p x op) = record { nodes = slice_set w.nodes p (dots_updated p op (dots_at w.nodes p)); sent = w.sent }
dot_act w (Post p) = record { nodes = w.nodes; sent = w.sent ++ dots_at w.nodes p ∷ [] }
dot_act w (Take p i) = record { nodes = slice_set w.nodes p (join_dots (dots_at w.nodes p) (dots_at w.sent i)); sent = w.sent }
dot_act w _ = w

abbrev pub dot_each : DotWorld → List Act → DotWorld
dot_each w [] = w
dot_each w (a ∷ rest) = dot_each (dot_act w a) rest

-- the world after commands
unfoldable pub dot_play : DotWorld → List Command → DotWorld
dot_play w [] = w
dot_play w (k ∷ rest) = dot_play (dot_each w (dot_acts w k)) rest
