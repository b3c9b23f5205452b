-- The message of a file, and the node that takes it.
use Rattle.std.proofs.Common.{◌≡◌, ℕ, ◌<◌, Bool, true, false, List, length, Option, Some, None, Result, Ok, Err, refl, sym, ap, subst, ◌∙◌, arith}
use Rattle.model_states.proofs.CountLaws.{length-zeros, length-larger}
use Rattle.model_graph.specs.Chain.{◌>>=◌, check, refusing}
use Rattle.model_graph.proofs.ChainLaws.{chain-passed, chain-refused}
use Rattle.model_graph.specs.Graph.{Decl, name_at}
use Rattle.model_graph.specs.Evaluation.{first_large}
use Rattle.model_graph.specs.Message.{Message, brought}
use Rattle.model_graph.proofs.MessageLaws.{gained-length}
use Rattle.model_wire.specs.Lawful.{IsMessage}
use Rattle.model_wire.specs.Message.{decoded}
use Rattle.model_wire.specs.declared.wire_why.WireWhy.{WireWhy}
use Rattle.model_world.specs.World.{Peer, fresh_peer, delivered}
use Rattle.model_runs.specs.Held.{IsHeld, IsSentTo}
use Rattle.model_runs.proofs.HeldLaws.{held-fresh, held-delivered}
use Rattle.model_runs.proofs.StopLaws.{first-low}
use Rattle.model_core.proofs.MessageLaws.{sent-to}
use Rattle.model_program.specs.Follows.{Gives}
use Rattle.model_program.specs.Merge.{may_take, file_at, state_refused, large_refused, replica_before, message_joined, file_joined}
use Rattle.model_program.proofs.MergeLaws.{take-Decides}
use Rattle.model_program.specs.declared.refusal.Refusal.{Refusal}
use Rattle.model_program.specs.declared.refusal.Refusal.TheVariants as refusal
use Rattle.model_program.specs.declared.state_why.StateWhy.TheVariants.{WrongGraph}
use Rattle.model_program.specs.declared.failure.Failure.{Failure}
use Rattle.model_program.specs.declared.failure.Failure.TheVariants.{Refused, ReadFault, Memory}
use Rattle.lasp_drive.specs.Node.{NodeView, IsNode, IsStill, IsFresh, Learns, OnlyLearns}
use Rattle.lasp_call.specs.Failure.{IsRefusal}
use Rattle.lasp_call.specs.Message.{message_refused}
use Rattle.lasp_run.specs.Merge.{IsReplica}

-- ---- messages to a graph

taken-sent : (g : List Decl) (r : Peer) (m : Message) → may_take g r m ≡ true → IsMessage m → IsSentTo (length r.counts) g m
taken-sent g r m taken lawful =
    let parts = (take-Decides g r m).0 taken in
    sent-to (length r.counts) g m lawful parts.1 (parts.0.rest, parts.0.is)

-- ---- what is answered of a message

-- what is done once a message may be taken
abbrev then_joined : List Decl → ℕ → Peer → Message → Result Peer Refusal
then_joined g i r m = large_refused g i (first_large 0 (delivered g m r).contents) >>= (λ _. Ok (delivered g m r))

message-checked : (g : List Decl) (i : ℕ) (r : Peer) (m : Message) → may_take g r m ≡ true → message_joined g i r m ≡ then_joined g i r m
message-checked g i r m taken = ap (λ (b : Bool). check b (refusal.State (file_at i) 0 WrongGraph) >>= (λ _. then_joined g i r m)) taken

message-taken : (g : List Decl) (i : ℕ) (r : Peer) (m : Message) → may_take g r m ≡ true → first_large 0 (delivered g m r).contents ≡ None → message_joined g i r m ≡ Ok (delivered g m r)
message-taken g i r m taken small = message-checked g i r m taken ∙ ap (λ (o : Option ℕ). large_refused g i o >>= (λ _. Ok (delivered g m r))) small

message-large : (g : List Decl) (i x : ℕ) (r : Peer) (m : Message) → may_take g r m ≡ true → first_large 0 (delivered g m r).contents ≡ Some x → message_joined g i r m ≡ Err (refusal.TooLarge i 0 (name_at g x))
message-large g i x r m taken large = message-checked g i r m taken ∙ ap (λ (o : Option ℕ). large_refused g i o >>= (λ _. Ok (delivered g m r))) large

pub joined-wrong : (g : List Decl) (i : ℕ) (r : Peer) (m : Message) → may_take g r m ≡ false → message_joined g i r m ≡ Err (refusal.State (file_at i) 0 WrongGraph)
joined-wrong g i r m other = ap (λ (b : Bool). check b (refusal.State (file_at i) 0 WrongGraph) >>= (λ _. then_joined g i r m)) other

-- a failure that is this refusal is given where it is what is answered
pub refusal-given : {A B : Type 0} (shown : A → B) (answer : Result B Refusal) (expected : Refusal) (failure : Failure) → answer ≡ Err expected → IsRefusal expected failure → Gives shown answer (Err failure)
refusal-given shown answer expected (Refused e) is same = is ∙ ap (λ (x : Refusal). Err x) (sym same)
refusal-given shown answer expected (ReadFault f) is same = same
refusal-given shown answer expected Memory is same = tt

-- ---- what is answered of a file

file-message : (g : List Decl) (i : ℕ) (r : Option Peer) (bytes : List ℕ) (m : Message) → refusing (state_refused i) (decoded bytes) ≡ Ok m → file_joined g i r bytes ≡ message_joined g i (replica_before g r m) m
unfolding file_joined
file-message g i r bytes m e = chain-passed (refusing (state_refused i) (decoded bytes)) (λ m. message_joined g i (replica_before g r m) m) m e

-- a file is told by the place of its name
said-by-place : {A : Type 0} (r : Result A (ℕ × WireWhy)) (f i : ℕ) → f ≡ file_at i → refusing (message_refused f) r ≡ refusing (state_refused i) r
said-by-place (Ok x) f i place = refl
said-by-place (Err e) f i place = ap (λ (n : ℕ). Err (message_refused n e)) place

-- the message of the file is read, and this is what is given of it
pub file-given : {A : Type 0} (shown : A → Peer) (g : List Decl) (f i : ℕ) (r : Option Peer) (bytes : List ℕ) (m : Message) (result : Result A Failure) → f ≡ file_at i → refusing (message_refused f) (decoded bytes) ≡ Ok m
    → Gives shown (message_joined g i (replica_before g r m) m) result → Gives shown (file_joined g i r bytes) result
file-given shown g f i r bytes m result place e h =
    subst (λ (answer : Result Peer Refusal). Gives shown answer result) (sym (file-message g i r bytes m (sym (said-by-place (decoded bytes) f i place) ∙ e))) h

-- the file holds no message, or memory was wanting
pub file-refused : {A M : Type 0} (shown : A → Peer) (told : M → Message) (g : List Decl) (f i : ℕ) (r : Option Peer) (bytes : List ℕ) (failure : Failure) → f ≡ file_at i → Gives told (refusing (message_refused f) (decoded bytes)) (Err failure)
    → Gives shown (file_joined g i r bytes) (Err failure)
unfolding file_joined
file-refused shown told g f i r bytes (Refused e) place h = chain-refused (refusing (state_refused i) (decoded bytes)) (λ m. message_joined g i (replica_before g r m) m) e (sym (said-by-place (decoded bytes) f i place) ∙ h)
file-refused shown told g f i r bytes (ReadFault e) place h = h
file-refused shown told g f i r bytes Memory place h = tt

-- ---- the node

-- a node to which nothing has happened
replica-fresh : (g : List Decl) (nodes : ℕ) (n : NodeView) → IsNode g nodes 0 n → n.peer ≡ fresh_peer g nodes → IsReplica g n
replica-fresh g nodes n node fresh = record {
  graph = node.graph;
  replica = node.replica;
  nodes = node.nodes ∙ sym long;
  held = subst (λ (r : Peer). IsHeld (length r.counts) g r) (sym fresh) (subst (λ (k : ℕ). IsHeld k g (fresh_peer g nodes)) (sym (length-zeros nodes)) (held-fresh nodes g));
} where
  long : length n.peer.counts ≡ nodes
  long = ap (λ (r : Peer). length r.counts) fresh ∙ length-zeros nodes

pub replica-new : (g : List Decl) (nodes : ℕ) (n : NodeView) → IsFresh g nodes 0 n → IsReplica g n
replica-new g nodes n fresh = replica-fresh g nodes n fresh.node fresh.peer

-- a node that learned
replica-learned : (g : List Decl) (n new : NodeView) → IsReplica g n → Learns n new → IsReplica g new
replica-learned g n new h learned = record {
  graph = learned.still.graph ∙ h.graph;
  replica = learned.still.replica ∙ h.replica;
  nodes = learned.still.nodes ∙ h.nodes ∙ ap (λ (r : Peer). length r.counts) (sym learned.peer);
  held = subst (λ (r : Peer). IsHeld (length r.counts) g r) (sym learned.peer) h.held;
}

pub replica-asked : (g : List Decl) (n new : NodeView) → IsReplica g n → OnlyLearns n new → IsReplica g new
replica-asked g n new h asked = replica-learned g n new h asked.learns

-- what the node has to have for what it does
pub replica-held : (g : List Decl) (n : NodeView) → IsReplica g n → IsHeld n.among n.decls n.peer
replica-held g n h = subst (λ (ds : List Decl). IsHeld n.among ds n.peer) (sym h.graph) (subst (λ (k : ℕ). IsHeld k g n.peer) (sym h.nodes) h.held)

pub replica-sent : (g : List Decl) (n : NodeView) (m : Message) → IsReplica g n → may_take g n.peer m ≡ true → IsMessage m → IsSentTo n.among n.decls m
replica-sent g n m h taken lawful =
    subst (λ (ds : List Decl). IsSentTo n.among ds m) (sym h.graph) (subst (λ (k : ℕ). IsSentTo k g m) (sym h.nodes) (taken-sent g n.peer m taken lawful))

-- the node after a message
pub replica-joined : (g : List Decl) (n new : NodeView) (m : Message) → IsReplica g n → may_take g n.peer m ≡ true → IsMessage m
    → IsStill n new → new.peer ≡ delivered n.decls m n.peer → first_large 0 (delivered n.decls m n.peer).contents ≡ None
    → IsReplica g new
replica-joined g n new m h taken lawful node is small = record {
  graph = node.graph ∙ h.graph;
  replica = node.replica ∙ h.replica;
  nodes = node.nodes ∙ h.nodes ∙ sym long;
  held = subst (λ (k : ℕ). IsHeld k g new.peer) (sym long) (subst (IsHeld (length n.peer.counts) g) (sym same) after);
} where
  same : new.peer ≡ delivered g m n.peer
  same = is ∙ ap (λ (ds : List Decl). delivered ds m n.peer) h.graph

  sent : IsSentTo (length n.peer.counts) g m
  sent = taken-sent g n.peer m taken lawful

  long : length new.peer.counts ≡ length n.peer.counts
  long = ap (λ (r : Peer). length r.counts) same ∙ (let wide = sent.wide in omega (arith, length-larger n.peer.counts m.counts, wide))

  after : IsHeld (length n.peer.counts) g (delivered g m n.peer)
  after = held-delivered (length n.peer.counts) g m n.peer h.held sent (ap (λ (ds : List Decl). first_large 0 (delivered ds m n.peer).contents) (sym h.graph) ∙ small)

-- a variable that comes to be too large is one of the graph
pub large-low : (g : List Decl) (n : NodeView) (m : Message) (x : ℕ) → IsReplica g n → first_large 0 (delivered n.decls m n.peer).contents ≡ Some x → x < length g
large-low g n m x h large =
    let long = h.held.long in
    omega (arith, first-low 0 (delivered n.decls m n.peer).contents x large, gained-length (brought n.decls m) 0 n.peer.contents, long)

-- ---- what is answered of the node

pub joined-taken : (g : List Decl) (i : ℕ) (n new : NodeView) (m : Message) → IsReplica g n → may_take g n.peer m ≡ true
    → new.peer ≡ delivered n.decls m n.peer → first_large 0 (delivered n.decls m n.peer).contents ≡ None → message_joined g i n.peer m ≡ Ok new.peer
joined-taken g i n new m h taken is small =
    message-taken g i n.peer m taken (ap (λ (ds : List Decl). first_large 0 (delivered ds m n.peer).contents) (sym h.graph) ∙ small)
    ∙ ap (λ (r : Peer). Ok r) (sym (is ∙ ap (λ (ds : List Decl). delivered ds m n.peer) h.graph))

pub joined-large : {A : Type 0} (shown : A → Peer) (g : List Decl) (i x : ℕ) (n : NodeView) (m : Message) (failure : Failure) → IsReplica g n → may_take g n.peer m ≡ true
    → first_large 0 (delivered n.decls m n.peer).contents ≡ Some x → IsRefusal (refusal.TooLarge i 0 (name_at g x)) failure → Gives shown (message_joined g i n.peer m) (Err failure)
joined-large shown g i x n m failure h taken large is =
    refusal-given shown (message_joined g i n.peer m) (refusal.TooLarge i 0 (name_at g x)) failure
    (message-large g i x n.peer m taken (ap (λ (ds : List Decl). first_large 0 (delivered ds m n.peer).contents) (sym h.graph) ∙ large)) is

pub ruleset replicas = (replica-new, replica-asked, replica-held, replica-sent, replica-joined, large-low, joined-taken, joined-large, joined-wrong)
