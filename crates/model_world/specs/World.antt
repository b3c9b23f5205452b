-- A world of replicas that does commands. A command is a list of small acts, and a run is their chain from the front:
-- it goes on as long as each act can be done, and the first that can't be done is where the run stops.
use Rattle.std.specs.Prelude.{ℕ, ◌+◌, List, [], ◌∷◌, ◌++◌, length, map, flat_map, filter, sum, if◌then◌else◌, ◌==◌, not, nat_lt, Option, Some, None, Result, Ok, Err, slice_index_or, slice_set, replicate}
use Rattle.std.specs.List.{range_with_len}
use Rattle.model_graph.specs.Chain.{◌>>=◌}
use Rattle.model_states.specs.Counts.{zeros, count_at, larger}
use Rattle.model_states.specs.Content.{Content, least, join_contents, size_of, row_limit}
use Rattle.model_states.specs.Update.{Op, Add, Remove, Insert, Inc, Max, Join, delta}
use Rattle.model_states.specs.Threshold.{Shape, set, Threshold, meets}
use Rattle.model_states.specs.Threshold as threshold
use Rattle.model_graph.specs.Graph.{Decl, kind_at}
use Rattle.model_graph.specs.Evaluation.{content_at, least_of, eval, first_large}
use Rattle.model_graph.specs.Lawful.{shape_of}
use Rattle.model_graph.specs.Message.{Message, message_of, brought, gained}
use Rattle.model_graph.specs.Spelling.{spelled}
use Rattle.model_world.specs.Command as command
use Rattle.model_world.specs.Command.{Until, Command, Script}
use Rattle.model_world.specs.Line.{print_line}
use Rattle.model_world.specs.declared.stop.Stop.{Stop}
use Rattle.model_world.specs.declared.stop.Stop.TheVariants.{TooLarge, NetworkFull, NotReached}

-- A replica: what its sources hold, by variable (derived places stay least), and how many updates of each replica it knows.
pub record Peer : Type 0 where
  pub contents : List Content
  pub counts : List ℕ

-- a content that a script marked, with the shape of its variable
pub record Marked : Type 0 where
  pub shape : Shape
  pub content : Content

-- a read that a script opened: the node, the variable, and what it waits for
pub record Opened : Type 0 where
  pub node : ℕ
  pub var : ℕ
  pub threshold : Threshold

-- a run so far: the graph, the replicas, all messages that were sent, the marks, the reads, and the lines that were printed
pub record Run : Type 0 where
  pub graph : List Decl
  pub peers : List Peer
  pub sent : List Message
  pub marks : List Marked
  pub reads : List Opened
  pub text : List ℕ

abbrev pub fresh_peer : List Decl → ℕ → Peer
fresh_peer g nodes = record { contents = map (λ d. least_of nodes d.kind) g; counts = zeros nodes }

abbrev pub no_peer : Peer
no_peer = record { contents = []; counts = [] }

abbrev pub peer_at : List Peer → ℕ → Peer
peer_at peers p = slice_index_or peers p no_peer

-- the world before the first command
abbrev pub start : List Decl → ℕ → Run
start g nodes = record { graph = g; peers = replicate nodes (fresh_peer g nodes); sent = []; marks = []; reads = []; text = [] }

-- replica p after an update of its variable x: the delta is joined in, and the update is counted
abbrev pub updated : ℕ → ℕ → Op → Peer → Peer
updated p x op r = record {
  contents = slice_set r.contents x (join_contents (content_at r.contents x) (delta op (content_at r.contents x) p (count_at r.counts p + 1)));
  counts = slice_set r.counts p (count_at r.counts p + 1);
}

-- a replica after a message: each source is joined with what the message has of it, and the counts become the larger ones
abbrev pub delivered : List Decl → Message → Peer → Peer
delivered g m r = record { contents = gained (brought g m) 0 r.contents; counts = larger r.counts m.counts }

-- a replica after a declaration: the new variable is least
abbrev pub extended : ℕ → Decl → Peer → Peer
extended nodes d r = record { contents = r.contents ++ least_of nodes d.kind ∷ []; counts = r.counts }

-- what a replica sends
abbrev pub message_at : List Decl → Peer → Message
message_at g r = message_of g r.contents r.counts

-- no message has no counts and no sources
abbrev pub no_message : Message
no_message = record { counts = []; sources = [] }

abbrev pub sent_number : List Message → ℕ → Message
sent_number sent i = slice_index_or sent i no_message

-- the bytes of all messages
abbrev pub network_size : List Message → ℕ
network_size sent = sum (map (λ m. length (spelled m)) sent)

-- the most bytes that all messages of a run may have
abbrev pub network_limit : ℕ
network_limit = 268435456

-- past the marks stands a set without rows
abbrev pub no_mark : Marked
no_mark = record { shape = set; content = least }

abbrev pub mark_at : List Marked → ℕ → Marked
mark_at marks m = slice_index_or marks m no_mark

-- a threshold with what its mark holds
abbrev pub threshold_of : List Marked → Until → Threshold
threshold_of marks (command.AtLeast m) = threshold.AtLeast (mark_at marks m).shape (mark_at marks m).content
threshold_of marks (command.Above m) = threshold.Above (mark_at marks m).shape (mark_at marks m).content
threshold_of marks (command.Count k) = threshold.Count k
threshold_of marks (command.Added vs) = threshold.Added vs
threshold_of marks (command.Removed vs) = threshold.Removed vs

-- what every variable of a replica shows
abbrev pub shown_at : List Decl → Peer → List Content
shown_at g r = eval g r.contents

pub data Act : Type 0 where
  -- node p updates its variable x
  Update : ℕ → ℕ → Op → Act
  -- the content of node p's source x is marked
  Keep : ℕ → ℕ → Act
  -- node p sends
  Post : ℕ → Act
  -- node p takes message i
  Take : ℕ → ℕ → Act
  -- every node is settled
  Point : Act
  -- node p prints its variable x
  Show : ℕ → ℕ → Act
  -- a read of node p's variable x is opened
  Open : ℕ → ℕ → Until → Act
  -- node p's variable x has to be at the threshold
  Reach : ℕ → ℕ → Until → Act
  -- a variable is declared at every node
  Extend : Decl → Act

-- node p takes the message of each other node, the first of which has number i
abbrev pub takes : ℕ → ℕ → ℕ → List Act
takes nodes i p = map (λ q. Take p (i + q)) (filter (λ q. not (q == p)) (range_with_len 0 nodes))

-- every node sends, and then each takes the messages of all others
abbrev pub sync_acts : ℕ → ℕ → List Act
sync_acts nodes i = map Post (range_with_len 0 nodes) ++ flat_map (takes nodes i) (range_with_len 0 nodes)

-- what a command does, the marks, messages and nodes of the run being known
abbrev pub acts : Run → Command → List Act
acts run (command.Add p x v) = Update p x (Add v) ∷ []
acts run (command.Remove p x v) = Update p x (Remove v) ∷ []
acts run (command.Insert p x v) = Update p x (Insert v) ∷ []
acts run (command.Inc p x k) = Update p x (Inc k) ∷ []
acts run (command.Max p x n) = Update p x (Max n) ∷ []
acts run (command.Mark p x) = Keep p x ∷ []
acts run (command.Bind p x m) = Update p x (Join (mark_at run.marks m).content) ∷ []
acts run (command.Send p) = Post p ∷ []
acts run (command.Deliver p i) = Take p i ∷ []
acts run command.Sync = sync_acts (length run.peers) (length run.sent)
acts run command.Settle = Point ∷ []
acts run (command.Print p x) = Point ∷ Show p x ∷ []
acts run (command.Read p x until) = Open p x until ∷ []
acts run (command.Await p x until) = Point ∷ Reach p x until ∷ []
acts run (command.Declare d) = Point ∷ Extend d ∷ []

-- the run with another replica in place of p
abbrev pub with_peer : Run → ℕ → Peer → Run
with_peer run p r = record { graph = run.graph; peers = slice_set run.peers p r; sent = run.sent; marks = run.marks; reads = run.reads; text = run.text }

-- an update stops the run where the source comes to have too many rows or elements
abbrev pub checked_update : ℕ → ℕ → ℕ → Run → Peer → Result Run Stop
checked_update c p x run r = if nat_lt row_limit (size_of (content_at r.contents x)) then Err (TooLarge c p x) else Ok (with_peer run p r)

-- a test of many variables stops the run at the first that is too large
abbrev pub stop_from : Option ℕ → ℕ → ℕ → Result Run Stop → Result Run Stop
stop_from None c p rest = rest
stop_from (Some x) c p rest = Err (TooLarge c p x)

-- a delivery stops the run at the first source that comes to have too many rows or elements
abbrev pub checked_delivery : ℕ → ℕ → Run → Peer → Result Run Stop
checked_delivery c p run r = stop_from (first_large 0 r.contents) c p (Ok (with_peer run p r))

-- a send stops the run where all messages come to have too many bytes
abbrev pub checked_send : ℕ → Run → List Message → Result Run Stop
checked_send c run sent =
    if nat_lt network_limit (network_size sent) then Err (NetworkFull c)
    else Ok (record { graph = run.graph; peers = run.peers; sent = sent; marks = run.marks; reads = run.reads; text = run.text })

-- a point stops the run at the first node, and there at the first variable, that shows too many rows
abbrev pub point_from : ℕ → ℕ → List Peer → Run → Result Run Stop
point_from c p [] run = Ok run
point_from c p (r ∷ peers) run = stop_from (first_large 0 (shown_at run.graph r)) c p (point_from c (p + 1) peers run)

abbrev pub with_mark : Run → Marked → Run
with_mark run m = record { graph = run.graph; peers = run.peers; sent = run.sent; marks = run.marks ++ m ∷ []; reads = run.reads; text = run.text }

abbrev pub with_read : Run → Opened → Run
with_read run o = record { graph = run.graph; peers = run.peers; sent = run.sent; marks = run.marks; reads = run.reads ++ o ∷ []; text = run.text }

abbrev pub with_text : Run → List ℕ → Run
with_text run text = record { graph = run.graph; peers = run.peers; sent = run.sent; marks = run.marks; reads = run.reads; text = run.text ++ text }

abbrev pub with_decl : Run → Decl → Run
with_decl run d = record { graph = run.graph ++ d ∷ []; peers = map (extended (length run.peers) d) run.peers; sent = run.sent; marks = run.marks; reads = run.reads; text = run.text }

-- what node p shows of its variable x
abbrev pub shown_content_at : Run → ℕ → ℕ → Content
shown_content_at run p x = content_at (shown_at run.graph (peer_at run.peers p)) x

-- the run after an act that can be done
abbrev pub effect : Run → Act → Run
effect run (Update p x op) = with_peer run p (updated p x op (peer_at run.peers p))
effect run (Keep p x) = with_mark run (record { shape = shape_of (length run.peers) (kind_at run.graph x); content = content_at (peer_at run.peers p).contents x })
effect run (Post p) = record { graph = run.graph; peers = run.peers; sent = run.sent ++ message_at run.graph (peer_at run.peers p) ∷ []; marks = run.marks; reads = run.reads; text = run.text }
effect run (Take p i) = with_peer run p (delivered run.graph (sent_number run.sent i) (peer_at run.peers p))
effect run Point = run
effect run (Show p x) = with_text run (print_line run.graph p x (shown_content_at run p x))
effect run (Open p x until) = with_read run (record { node = p; var = x; threshold = threshold_of run.marks until })
effect run (Reach p x until) = run
effect run (Extend d) = with_decl run d

-- one act of command number c
abbrev pub act : ℕ → Run → Act → Result Run Stop
act c run (Update p x op) = checked_update c p x run (updated p x op (peer_at run.peers p))
act c run (Keep p x) = Ok (with_mark run (record { shape = shape_of (length run.peers) (kind_at run.graph x); content = content_at (peer_at run.peers p).contents x }))
act c run (Post p) = checked_send c run (run.sent ++ message_at run.graph (peer_at run.peers p) ∷ [])
act c run (Take p i) = checked_delivery c p run (delivered run.graph (sent_number run.sent i) (peer_at run.peers p))
act c run Point = point_from c 0 run.peers run
act c run (Show p x) = Ok (with_text run (print_line run.graph p x (shown_content_at run p x)))
act c run (Open p x until) = Ok (with_read run (record { node = p; var = x; threshold = threshold_of run.marks until }))
act c run (Reach p x until) = if meets (threshold_of run.marks until) (shown_content_at run p x) then Ok run else Err (NotReached c)
act c run (Extend d) = Ok (with_decl run d)

abbrev pub each : ℕ → Run → List Act → Result Run Stop
each c run [] = Ok run
each c run (a ∷ rest) = act c run a >>= (λ next. each c next rest)

abbrev pub step : ℕ → Run → Command → Result Run Stop
step c run k = each c run (acts run k)

-- the commands that are left, the first of them being number c; the end of the script is a point
unfoldable pub play : ℕ → Run → List Command → Result Run Stop
play c run [] = act c run Point
play c run (k ∷ rest) = step c run k >>= (λ next. play (c + 1) next rest)

-- the whole run of a script: its last world, or its first stop
abbrev pub ended : List Decl → Script → Result Run Stop
ended g script = play 1 (start g script.nodes) script.commands
