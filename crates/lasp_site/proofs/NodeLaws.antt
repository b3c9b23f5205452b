-- The node of a site: what it has to have for what it does, and that it stays one.
use Rattle.std.proofs.Common.{◌≡◌, ℕ, ◌+◌, ◌<◌, ◌≤◌, true, List, length, Some, None, sym, ap, subst, ◌∙◌, arith}
use Rattle.model_values.proofs.ListLaws.{each-weaker}
use Rattle.model_states.specs.Content.{size_of, row_limit}
use Rattle.model_states.specs.Counts.{count_at}
use Rattle.model_states.specs.Update.{Op}
use Rattle.model_graph.specs.Graph.{Decl}
use Rattle.model_graph.specs.Evaluation.{content_at, first_large}
use Rattle.model_graph.specs.Message.{Message, brought}
use Rattle.model_graph.proofs.MessageLaws.{gained-length}
use Rattle.model_readings.specs.Lawful.{IsGraph}
use Rattle.model_wire.specs.Lawful.{IsMessage}
use Rattle.model_world.specs.World.{Peer, fresh_peer, updated, delivered, message_at}
use Rattle.model_runs.specs.Held.{AreBelow, IsHeld, IsSentTo, IsUpdate}
use Rattle.model_runs.proofs.EachLaws.{each-set}
use Rattle.model_runs.proofs.HeldLaws.{held-fresh, below-fresh, held-updated, held-delivered, below-delivered, held-message}
use Rattle.model_runs.proofs.StopLaws.{first-low}
use Rattle.model_core.proofs.MessageLaws.{sent-to}
use Rattle.model_program.specs.Merge.{may_take}
use Rattle.model_program.proofs.MergeLaws.{take-Decides}
use Rattle.lasp_drive.specs.Node.{NodeView, IsStill, Learns, OnlyLearns, IsFresh}
use Rattle.lasp_site.specs.Site.{IsSiteNode, IsAsked}

-- a node to which nothing has happened
pub node-new : (g : List Decl) (p nodes : ℕ) (n : NodeView) → p < nodes → nodes ≤ 8 → IsFresh g nodes p n → IsSiteNode p g n
node-new g p nodes n member few fresh = record {
  graph = fresh.node.graph;
  replica = fresh.node.replica;
  member = omega (arith, member, fresh.node.nodes);
  few = omega (arith, few, fresh.node.nodes);
  held = subst (λ (r : Peer). IsHeld n.among g r) (sym fresh.peer) (subst (λ (k : ℕ). IsHeld k g (fresh_peer g nodes)) (sym fresh.node.nodes) (held-fresh nodes g));
  below = subst (λ (r : Peer). AreBelow 100001 r.counts) (sym fresh.peer) (each-weaker (λ c. c < 1) (λ c. c < 100001) (λ c low. omega (arith, low)) (fresh_peer g nodes).counts (below-fresh nodes g));
}

pub node-fresh : (g : List Decl) (p nodes : ℕ) (n : NodeView) → IsFresh g nodes p n → n.peer ≡ fresh_peer g n.among
node-fresh g p nodes n fresh = fresh.peer ∙ ap (λ (k : ℕ). fresh_peer g k) (sym fresh.node.nodes)

pub node-held : (p : ℕ) (g : List Decl) (n : NodeView) → IsSiteNode p g n → IsHeld n.among n.decls n.peer
node-held p g n h = subst (λ (ds : List Decl). IsHeld n.among ds n.peer) (sym h.graph) h.held

-- ---- messages

taken-sent : (p : ℕ) (g : List Decl) (n : NodeView) (m : Message) → IsSiteNode p g n → may_take g n.peer m ≡ true → IsMessage m → IsSentTo n.among g m
taken-sent p g n m h taken lawful =
    let parts = (take-Decides g n.peer m).0 taken in
    sent-to n.among g m lawful (parts.1 ∙ h.held.wide) (parts.0.rest, parts.0.is)

pub node-sent : (p : ℕ) (g : List Decl) (n : NodeView) (m : Message) → IsSiteNode p g n → may_take g n.peer m ≡ true → IsMessage m → IsSentTo n.among n.decls m
node-sent p g n m h taken lawful = subst (λ (ds : List Decl). IsSentTo n.among ds m) (sym h.graph) (taken-sent p g n m h taken lawful)

-- the node after a message
pub node-taken : (p : ℕ) (g : List Decl) (n new : NodeView) (m : Message) → IsSiteNode p g n → may_take g n.peer m ≡ true → IsMessage m
    → IsStill n new → new.peer ≡ delivered n.decls m n.peer → first_large 0 (delivered n.decls m n.peer).contents ≡ None → IsSiteNode p g new
node-taken p g n new m h taken lawful node is small = record {
  graph = node.graph ∙ h.graph;
  replica = node.replica ∙ h.replica;
  member = omega (arith, h.member, node.nodes);
  few = omega (arith, h.few, node.nodes);
  held = subst (λ (k : ℕ). IsHeld k g new.peer) (sym node.nodes) (subst (IsHeld n.among g) (sym same) after);
  below = subst (λ (r : Peer). AreBelow 100001 r.counts) (sym same) (below-delivered 100001 g m n.peer (sym (((take-Decides g n.peer m).0 taken).1)) h.below counted);
} where
  same : new.peer ≡ delivered g m n.peer
  same = is ∙ ap (λ (ds : List Decl). delivered ds m n.peer) h.graph

  after : IsHeld n.among g (delivered g m n.peer)
  after = held-delivered n.among g m n.peer h.held (taken-sent p g n m h taken lawful) (ap (λ (ds : List Decl). first_large 0 (delivered ds m n.peer).contents) (sym h.graph) ∙ small)

  counted : AreBelow 100001 m.counts
  counted = each-weaker (λ c. c ≤ 100000) (λ c. c < 100001) (λ c low. omega (arith, low)) m.counts lawful.counts

-- a source that comes to be too large is one of the graph
pub taken-low : (p : ℕ) (g : List Decl) (n : NodeView) (m : Message) (x : ℕ) → IsSiteNode p g n → first_large 0 (delivered n.decls m n.peer).contents ≡ Some x → x < length g
taken-low p g n m x h large =
    let long = h.held.long in
    omega (arith, first-low 0 (delivered n.decls m n.peer).contents x large, gained-length (brought n.decls m) 0 n.peer.contents, long)

-- ---- updates

pub node-updated : (p : ℕ) (g : List Decl) (n new : NodeView) (x : ℕ) (op : Op) → IsSiteNode p g n → x < length g → IsUpdate n.among g x op → count_at n.peer.counts p < 100000
    → IsStill n new → new.peer ≡ updated n.number x op n.peer → size_of (content_at (updated n.number x op n.peer).contents x) ≤ row_limit → IsSiteNode p g new
node-updated p g n new x op h low may room node is small = record {
  graph = node.graph ∙ h.graph;
  replica = node.replica ∙ h.replica;
  member = omega (arith, h.member, node.nodes);
  few = omega (arith, h.few, node.nodes);
  held = subst (λ (k : ℕ). IsHeld k g new.peer) (sym node.nodes) (subst (IsHeld n.among g) (sym same) after);
  below = subst (λ (r : Peer). AreBelow 100001 r.counts) (sym same) (each-set (λ c. c < 100001) n.peer.counts p (count_at n.peer.counts p + 1) h.below (omega (arith, room)));
} where
  same : new.peer ≡ updated p x op n.peer
  same = is ∙ ap (λ (q : ℕ). updated q x op n.peer) h.replica

  after : IsHeld n.among g (updated p x op n.peer)
  after = held-updated n.among p x g op n.peer h.held h.member low may room (subst (λ (q : ℕ). size_of (content_at (updated q x op n.peer).contents x) ≤ row_limit) h.replica small)

-- ---- what it sends

pub node-message : (p : ℕ) (g : List Decl) (n : NodeView) → IsGraph g → IsSiteNode p g n → IsMessage (message_at n.decls n.peer)
node-message p g n lawful h =
    subst (λ (ds : List Decl). IsMessage (message_at ds n.peer)) (sym h.graph) (held-message n.among g n.peer lawful (omega (arith, h.member)) h.few h.held h.below)

-- a node that only showed more is the node
pub node-settled : (p : ℕ) (g : List Decl) (n new : NodeView) → IsSiteNode p g n → IsStill n new → new.peer ≡ n.peer → IsSiteNode p g new
node-settled p g n new h node same = record {
  graph = node.graph ∙ h.graph;
  replica = node.replica ∙ h.replica;
  member = omega (arith, h.member, node.nodes);
  few = omega (arith, h.few, node.nodes);
  held = subst (λ (k : ℕ). IsHeld k g new.peer) (sym node.nodes) (subst (IsHeld n.among g) (sym same) h.held);
  below = subst (λ (r : Peer). AreBelow 100001 r.counts) (sym same) h.below;
}

-- a node that was asked something
pub node-asked : (p : ℕ) (g : List Decl) (n new : NodeView) → IsSiteNode p g n → Learns n new → IsAsked p g n new
node-asked p g n new h learnt = record {
  node = record {
    graph = learnt.still.graph ∙ h.graph;
    replica = learnt.still.replica ∙ h.replica;
    member = omega (arith, h.member, learnt.still.nodes);
    few = omega (arith, h.few, learnt.still.nodes);
    held = subst (λ (many : ℕ). IsHeld many g new.peer) (sym learnt.still.nodes) (subst (λ (r : Peer). IsHeld n.among g r) (sym learnt.peer) h.held);
    below = subst (λ (r : Peer). AreBelow 100001 r.counts) (sym learnt.peer) h.below;
  };
  peer = learnt.peer;
  among = learnt.still.nodes;
}

-- and so one that learned
pub node-learned : (p : ℕ) (g : List Decl) (n new : NodeView) → IsSiteNode p g n → OnlyLearns n new → IsSiteNode p g new
node-learned p g n new h asked = (node-asked p g n new h asked.learns).node

pub ruleset asked = (node-asked)
