-- Laws of the nodes of a run: what one node did, the world did.
use Rattle.std.proofs.Common.{zero, suc, refl, sym, ap, subst, ◌∙◌, arith, get_or}
use Rattle.std.specs.Prelude.{◌≡◌, ◌≢◌, ℕ, ◌+◌, ◌<◌, ◌≤◌, List, [], ◌∷◌, ◌++◌, map, length, Option, Some, None, slice_get, slice_set, slice_index_or, Result, Ok, Err, Bool, if◌then◌else◌, IsTrue}
use Rattle.std.proofs.lemmas.List.{map-set, length-map}
use Rattle.std.proofs.lemmas.Bool.{le-ltb, lt-ltb}
use Rattle.std.proofs.lemmas.Option.{slice_get_read, get_or_from_slice_get}
use Rattle.model_states.specs.Content.{size_of, row_limit}
use Rattle.model_states.specs.Counts.{count_at}
use Rattle.model_states.specs.Threshold.{Threshold, suits}
use Rattle.model_states.specs.Update.{Op}
use Rattle.model_graph.specs.Graph.{Decl, kind_at}
use Rattle.model_graph.specs.Lawful.{shape_of}
use Rattle.model_graph.specs.Evaluation.{content_at, first_large}
use Rattle.model_graph.specs.Message.{Message}
use Rattle.model_graph.specs.Spelling.{spelled}
use Rattle.model_world.specs.World.{Peer, Run, peer_at, with_peer, updated, checked_update, delivered, checked_delivery, stop_from, shown_at, message_at, no_message, sent_number, checked_send, network_size, network_limit}
use Rattle.model_world.specs.declared.stop.Stop.{Stop}
use Rattle.model_world.specs.declared.stop.Stop.TheVariants.{TooLarge, NetworkFull}
use Rattle.model_runs.specs.Held.{IsHeld, IsUpdate, IsSentTo, AreBelow}
use Rattle.model_runs.proofs.EachLaws.{each-weaker, below-at}
use Rattle.lasp_state.specs.State.{IsOpOf}
use Rattle.lasp_state.specs.declared.op.Op as rust
use Rattle.lasp_gossip.specs.Network.{size_of as size_of_network}
use Rattle.lasp_gossip.proofs.SizeLaws.{size_more}
use Rattle.lasp_drive.specs.Node.{NodeView, Updates, Delivers, IsNode, IsStill, AreNodes, IsSettled, Grew, Learns, OnlyLearns}
use Rattle.lasp_drive.specs.Nodes.{peers_of}
use Rattle.lasp_drive.specs.declared.node.NodeStop.{NodeStop}
use Rattle.lasp_drive.specs.declared.node.NodeStop.TheVariants as node

-- ---- lists

-- what holds of each other element and of a new one holds of each after a write
pub at-set : {X : Type 0} (P : ℕ → X → Type 0) (xs : List X) (p : ℕ) (y : X) → ((q : ℕ) (x : X) → q ≢ p → slice_get xs q ≡ Some x → P q x) → P p y
    → (q : ℕ) (x : X) → slice_get (slice_set xs p y) q ≡ Some x → P q x
at-set P [] p y each here q x e = absurd cc
at-set P (z ∷ xs) zero y each here zero x e = subst (λ w. P zero w) (let same : y ≡ x = cc in same) here
at-set P (z ∷ xs) zero y each here (suc q) x e = each (suc q) x (λ h. omega (arith, h)) e
at-set P (z ∷ xs) (suc p) y each here zero x e = each zero x (λ h. omega (arith, h)) e
at-set P (z ∷ xs) (suc p) y each here (suc q) x e = at-set (λ n. P (suc n)) xs p y (λ n w other h. each (suc n) w (λ k. other (omega (arith, k))) h) here q x e

-- what an element is mapped to stands at its place
pub mapped-at : {X Y : Type 0} (f : X → Y) (xs : List X) (p : ℕ) (x : X) → slice_get xs p ≡ Some x → slice_get (map f xs) p ≡ Some (f x)
mapped-at f [] p x at = absurd cc
mapped-at f (z ∷ xs) zero x at = ap (λ w. Some (f w)) (let same : z ≡ x = cc in same)
mapped-at f (z ∷ xs) (suc p) x at = mapped-at f xs p x at

pub mapped-or : {X Y : Type 0} (f : X → Y) (xs : List X) (p : ℕ) (x : X) (d : Y) → slice_get xs p ≡ Some x → slice_index_or (map f xs) p d ≡ f x
mapped-or f xs p x d at = get_or_from_slice_get (map f xs) p (f x) d (mapped-at f xs p x at)

-- an element that has what the one at its place had leaves all as it was
pub same-set : {X Y : Type 0} (f : X → Y) (xs : List X) (p : ℕ) (x y : X) → slice_get xs p ≡ Some x → f y ≡ f x → map f (slice_set xs p y) ≡ map f xs
same-set f [] p x y at same = refl
same-set {X} {Y} f (z ∷ xs) zero x y at same = ap (λ (r : Y). r ∷ map f xs) (same ∙ ap f (sym (let here : z ≡ x = cc in here)))
same-set {X} {Y} f (z ∷ xs) (suc p) x y at same = ap (λ (rs : List Y). f z ∷ rs) (same-set f xs p x y at same)

-- ---- a node of the code, as it is seen

-- the node at a place
pub seen-at : {N V : Type 0} (view : N → V) (nodes : List N) (p : ℕ) (n : N) → p < length nodes → n ≡ get_or nodes p n → slice_get (map view nodes) p ≡ Some (view n)
seen-at view nodes p n within found = mapped-at view nodes p n (slice_get_read nodes (length nodes) p n refl within found)

pub seen-low : {N V : Type 0} (view : N → V) (nodes : List N) (p : ℕ) → p < length (map view nodes) → p < length nodes
seen-low view nodes p low = omega (arith, low, length-map nodes view)

pub seen-high : {N V : Type 0} (view : N → V) (nodes : List N) (p : ℕ) → p < length nodes → p < length (map view nodes)
seen-high view nodes p low = omega (arith, low, length-map nodes view)

-- what holds of the nodes with a new one in its place
pub seen-set : {N V : Type 0} (view : N → V) (nodes : List N) (p : ℕ) (new : N) (P : List V → Type 0) → P (slice_set (map view nodes) p (view new)) → P (map view (slice_set nodes p new))
seen-set view nodes p new P holds = subst P (sym (map-set view nodes p new)) holds

-- a node that is where it was leaves all where they were
pub same-place : {N P : Type 0} (place : N → P) (nodes : List N) (p : ℕ) (n new : N) → p < length nodes → n ≡ get_or nodes p n → place new ≡ place n → map place (slice_set nodes p new) ≡ map place nodes
same-place place nodes p n new within found same = same-set place nodes p n new (slice_get_read nodes (length nodes) p n refl within found) same

-- ---- nodes of one run

-- the nodes after a call of one of them
pub nodes-set : (g : List Decl) (many : ℕ) (nodes : List NodeView) (p : ℕ) (new : NodeView) → AreNodes g many nodes → IsNode g many p new → AreNodes g many (slice_set nodes p new)
nodes-set g many nodes p new each here = at-set (IsNode g many) nodes p new (λ q n _ h. each q n h) here

-- a call of a node leaves it the node of its number
pub node-stays : (g : List Decl) (many p : ℕ) (n new : NodeView) → IsNode g many p n → IsStill n new → IsNode g many p new
node-stays g many p n new old stays = record { graph = stays.graph ∙ old.graph; replica = stays.replica ∙ old.replica; nodes = stays.nodes ∙ old.nodes }

-- a node that learned grew
pub learned-grew : (n new : NodeView) → OnlyLearns n new → Grew n new
learned-grew n new learned = record { more = learned.learns.more; released = learned.reads; sent = learned.sent }

-- and is settled where it was
pub learned-settled : (n new : NodeView) → Learns n new → IsSettled n → IsSettled new
learned-settled n new learned settled =
    learned.settled settled ∙ settled ∙ ap (λ (h : List Decl). shown_at h n.peer) (sym learned.still.graph) ∙ ap (shown_at new.decls) (sym learned.peer)

-- a node that learned nothing, and one that learned once and once more
pub learns-itself : (n : NodeView) → Learns n n
learns-itself n = record {
  still = record { graph = refl; replica = refl; nodes = refl };
  peer = refl;
  calls = refl;
  more = λ x threshold met. met;
  settled = λ settled. refl;
}

pub learns-then : (a b c : NodeView) → Learns a b → Learns b c → Learns a c
learns-then a b c first second = record {
  still = node-stays a.decls a.among a.number b c first.still second.still;
  peer = second.peer ∙ first.peer;
  calls = second.calls ∙ first.calls;
  more = λ x threshold met. second.more x threshold (first.more x threshold met);
  settled = λ settled. second.settled (learned-settled a b first settled) ∙ first.settled settled;
}

-- the replica of a node
pub peer-here : (nodes : List NodeView) (p : ℕ) (n : NodeView) → slice_get nodes p ≡ Some n → peer_at (peers_of nodes) p ≡ n.peer
peer-here nodes p n at = mapped-or (λ (n : NodeView). n.peer) nodes p n _ at

pub held-here : (g : List Decl) (many : ℕ) (nodes : List NodeView) (p : ℕ) (n : NodeView) → IsNode g many p n → slice_get nodes p ≡ Some n → IsHeld many g (peer_at (peers_of nodes) p) → IsHeld n.among n.decls n.peer
held-here g many nodes p n here at held =
    subst (λ (k : ℕ). IsHeld k n.decls n.peer) (sym here.nodes)
    (subst (λ (h : List Decl). IsHeld many h n.peer) (sym here.graph)
    (subst (λ (r : Peer). IsHeld many g r) (peer-here nodes p n at) held))

-- an update that the world may give to a node's replica, the node may get
pub update-here : (g : List Decl) (many p x : ℕ) (n : NodeView) (op : Op) → IsNode g many p n → IsUpdate many g x op → IsUpdate n.among n.decls x op
update-here g many p x n op here may =
    subst (λ (k : ℕ). IsUpdate k n.decls x op) (sym here.nodes) (subst (λ (h : List Decl). IsUpdate many h x op) (sym here.graph) may)

pub suits-here : (g : List Decl) (many p x : ℕ) (n : NodeView) (op : rust.Op) → IsNode g many p n
    → IsOpOf op p (shape_of many (kind_at g x)) → IsOpOf op n.number (shape_of n.among (kind_at n.decls x))
suits-here g many p x n op here suits =
    subst (λ (k : ℕ). IsOpOf op n.number (shape_of k (kind_at n.decls x))) (sym here.nodes)
    (subst (λ (h : List Decl). IsOpOf op n.number (shape_of many (kind_at h x))) (sym here.graph)
    (subst (λ (q : ℕ). IsOpOf op q (shape_of many (kind_at g x))) (sym here.replica) suits))

pub room-here : (g : List Decl) (many c : ℕ) (nodes : List NodeView) (p : ℕ) (n : NodeView) → IsNode g many p n → slice_get nodes p ≡ Some n → p < many
    → length (peer_at (peers_of nodes) p).counts ≡ many → AreBelow c (peer_at (peers_of nodes) p).counts → c ≤ 100000 → count_at n.peer.counts n.number < 100000
room-here g many c nodes p n here at member wide below few =
    subst (λ (q : ℕ). count_at n.peer.counts q < 100000) (sym here.replica)
    (subst (λ (r : Peer). count_at r.counts p < 100000) (peer-here nodes p n at)
    (omega (arith, few, below-at c p (peer_at (peers_of nodes) p).counts below (omega (arith, member, wide)))))

pub var-here : (g : List Decl) (x : ℕ) (n : NodeView) → n.decls ≡ g → x < length g → x < length n.decls
var-here g x n graph within = subst (λ (h : List Decl). x < length h) (sym graph) within

-- a threshold that suits a variable suits it at the node
pub suited-here : (g : List Decl) (many p x : ℕ) (n : NodeView) (t : Threshold) → IsNode g many p n → IsTrue (suits t (shape_of many (kind_at g x))) → IsTrue (suits t (shape_of n.among (kind_at n.decls x)))
suited-here g many p x n t here suited =
    subst (λ (k : ℕ). IsTrue (suits t (shape_of k (kind_at n.decls x)))) (sym here.nodes) (subst (λ (h : List Decl). IsTrue (suits t (shape_of many (kind_at h x)))) (sym here.graph) suited)

-- ---- updates

abbrev checked_by : ℕ → ℕ → ℕ → Run → Peer → Bool → Result Run Stop
checked_by c p x run r long = if long then Err (TooLarge c p x) else Ok (with_peer run p r)

-- the world updates the node's replica
same-updated : (nodes : List NodeView) (p x : ℕ) (op : Op) (n : NodeView) → n.number ≡ p → slice_get nodes p ≡ Some n → updated n.number x op n.peer ≡ updated p x op (peer_at (peers_of nodes) p)
same-updated nodes p x op n same at =
    ap (λ (q : ℕ). updated q x op n.peer) same ∙ ap (λ (r : Peer). updated p x op r) (sym (peer-here nodes p n at))

-- a run with these replicas
abbrev pub with_peers : Run → List Peer → Run
with_peers run peers = record { graph = run.graph; peers = peers; sent = run.sent; marks = run.marks; reads = run.reads; text = run.text }

peers-set : (run : Run) (nodes : List NodeView) (p : ℕ) (new : NodeView) → run.peers ≡ peers_of nodes → with_peer run p new.peer ≡ with_peers run (peers_of (slice_set nodes p new))
peers-set run nodes p new peers = ap (with_peers run) (ap (λ (ps : List Peer). slice_set ps p new.peer) peers ∙ sym (map-set (λ (n : NodeView). n.peer) nodes p new))

-- an update that its node did, the world did
pub update-done : (run : Run) (nodes : List NodeView) (c p x : ℕ) (op : Op) (n new : NodeView) → run.peers ≡ peers_of nodes → n.number ≡ p → slice_get nodes p ≡ Some n
    → new.peer ≡ updated n.number x op n.peer → size_of (content_at (updated n.number x op n.peer).contents x) ≤ row_limit
    → checked_update c p x run (updated p x op (peer_at (peers_of nodes) p)) ≡ Ok (with_peers run (peers_of (slice_set nodes p new)))
update-done run nodes c p x op n new peers same at is small =
    let expected : updated n.number x op n.peer ≡ updated p x op (peer_at (peers_of nodes) p) = same-updated nodes p x op n same at in
    let few : size_of (content_at new.peer.contents x) ≤ row_limit = subst (λ (r : Peer). size_of (content_at r.contents x) ≤ row_limit) (sym is) small in
    subst (λ (r : Peer). checked_update c p x run r ≡ Ok (with_peer run p new.peer)) (is ∙ expected)
    (ap (λ (b : Bool). checked_by c p x run new.peer b) (le-ltb row_limit (size_of (content_at new.peer.contents x)) few))
    ∙ ap (λ (next : Run). Ok next) (peers-set run nodes p new peers)

-- a node that stopped at a variable has too many rows there
pub stopped-large : (expected new : Peer) (x : ℕ) (stop : NodeStop) (y : ℕ) → stop ≡ node.TooLarge y → Updates {A = Unit {0}} expected x (Err stop) new → row_limit < size_of (content_at expected.contents x)
stopped-large expected new x (node.TooLarge z) y e h = h.1
stopped-large expected new x node.Memory y e h = absurd cc

-- an update that makes the variable too large stops the world
pub update-stops : (run : Run) (nodes : List NodeView) (c p x : ℕ) (op : Op) (n : NodeView) → n.number ≡ p → slice_get nodes p ≡ Some n
    → row_limit < size_of (content_at (updated n.number x op n.peer).contents x) → checked_update c p x run (updated p x op (peer_at (peers_of nodes) p)) ≡ Err (TooLarge c p x)
update-stops run nodes c p x op n same at large =
    subst (λ (r : Peer). checked_update c p x run r ≡ Err (TooLarge c p x)) (same-updated nodes p x op n same at)
    (ap (λ (b : Bool). checked_by c p x run (updated n.number x op n.peer) b) (lt-ltb row_limit (size_of (content_at (updated n.number x op n.peer).contents x)) large))

-- ---- deliveries

same-delivered : (g : List Decl) (m sent : Message) (nodes : List NodeView) (p : ℕ) (n : NodeView) → n.decls ≡ g → m ≡ sent → slice_get nodes p ≡ Some n
    → delivered n.decls m n.peer ≡ delivered g sent (peer_at (peers_of nodes) p)
same-delivered g m sent nodes p n graph same at =
    ap (λ (h : List Decl). delivered h m n.peer) graph ∙ ap (λ (k : Message). delivered g k n.peer) same ∙ ap (delivered g sent) (sym (peer-here nodes p n at))

abbrev delivered_by : ℕ → ℕ → Run → Peer → Option ℕ → Result Run Stop
delivered_by c p run r large = stop_from large c p (Ok (with_peer run p r))

-- a delivery that its node did, the world did
pub deliver-done : (run : Run) (m sent : Message) (nodes : List NodeView) (c p : ℕ) (n new : NodeView) → run.peers ≡ peers_of nodes → n.decls ≡ run.graph → m ≡ sent → slice_get nodes p ≡ Some n
    → new.peer ≡ delivered n.decls m n.peer → first_large 0 (delivered n.decls m n.peer).contents ≡ None
    → checked_delivery c p run (delivered run.graph sent (peer_at (peers_of nodes) p)) ≡ Ok (with_peers run (peers_of (slice_set nodes p new)))
deliver-done run m sent nodes c p n new peers graph same at is small =
    let expected : delivered n.decls m n.peer ≡ delivered run.graph sent (peer_at (peers_of nodes) p) = same-delivered run.graph m sent nodes p n graph same at in
    subst (λ (r : Peer). checked_delivery c p run r ≡ Ok (with_peer run p new.peer)) (is ∙ expected)
    (ap (λ (large : Option ℕ). delivered_by c p run new.peer large) (subst (λ (r : Peer). first_large 0 r.contents ≡ None) (sym is) small))
    ∙ ap (λ (next : Run). Ok next) (peers-set run nodes p new peers)

-- the variable that a node stopped at is the first that is too large
pub stopped-delivery : (expected new : Peer) (stop : NodeStop) (y : ℕ) → stop ≡ node.TooLarge y → Delivers {A = Unit {0}} expected (Err stop) new → first_large 0 expected.contents ≡ Some y
stopped-delivery expected new (node.TooLarge z) y e h = h ∙ ap (λ (k : ℕ). Some k) (let same : z ≡ y = cc in same)
stopped-delivery expected new node.Memory y e h = absurd cc

-- a delivery that makes a variable too large stops the world
pub deliver-stops : (run : Run) (m sent : Message) (nodes : List NodeView) (c p x : ℕ) (n : NodeView) → n.decls ≡ run.graph → m ≡ sent → slice_get nodes p ≡ Some n
    → first_large 0 (delivered n.decls m n.peer).contents ≡ Some x
    → checked_delivery c p run (delivered run.graph sent (peer_at (peers_of nodes) p)) ≡ Err (TooLarge c p x)
deliver-stops run m sent nodes c p x n graph same at large =
    subst (λ (r : Peer). checked_delivery c p run r ≡ Err (TooLarge c p x)) (same-delivered run.graph m sent nodes p n graph same at)
    (ap (λ (o : Option ℕ). delivered_by c p run (delivered n.decls m n.peer) o) large)

-- what is sent to a graph's replicas is sent to its node
pub sent-here : (g : List Decl) (many p : ℕ) (n : NodeView) (m : Message) → IsNode g many p n → IsSentTo many g m → IsSentTo n.among n.decls m
sent-here g many p n m here sent =
    subst (λ (k : ℕ). IsSentTo k n.decls m) (sym here.nodes) (subst (λ (h : List Decl). IsSentTo many h m) (sym here.graph) sent)

-- ---- sends

-- what a node sends, the world sends
pub message-here : (g : List Decl) (nodes : List NodeView) (p : ℕ) (n : NodeView) → n.decls ≡ g → slice_get nodes p ≡ Some n → message_at n.decls n.peer ≡ message_at g (peer_at (peers_of nodes) p)
message-here g nodes p n graph at = ap (λ (h : List Decl). message_at h n.peer) graph ∙ ap (message_at g) (sym (peer-here nodes p n at))

-- the message under a number
pub sent-read : (sent : List Message) (i : ℕ) (m : Message) → slice_get sent i ≡ Some m → m ≡ sent_number sent i
sent-read sent i m e = sym (get_or_from_slice_get sent i m no_message e)

abbrev posted_by : ℕ → Run → List Message → Bool → Result Run Stop
posted_by c run sent full = if full then Err (NetworkFull c) else Ok (record { graph = run.graph; peers = run.peers; sent = sent; marks = run.marks; reads = run.reads; text = run.text })

-- a send that the network took, the world did
pub post-done : (run : Run) (c : ℕ) (m expected : Message) → m ≡ expected → size_of_network run.sent + length (spelled m) ≤ network_limit
    → checked_send c run (run.sent ++ expected ∷ []) ≡ Ok (record { graph = run.graph; peers = run.peers; sent = run.sent ++ m ∷ []; marks = run.marks; reads = run.reads; text = run.text })
post-done run c m expected same room =
    subst (λ (k : Message). checked_send c run (run.sent ++ k ∷ []) ≡ Ok (record { graph = run.graph; peers = run.peers; sent = run.sent ++ m ∷ []; marks = run.marks; reads = run.reads; text = run.text })) same
    (ap (λ (full : Bool). posted_by c run (run.sent ++ m ∷ []) full) (le-ltb network_limit (network_size (run.sent ++ m ∷ [])) (omega (arith, size_more run.sent m, room))))

pub post-stops : (run : Run) (c : ℕ) (m expected : Message) → m ≡ expected → network_limit < size_of_network run.sent + length (spelled m)
    → checked_send c run (run.sent ++ expected ∷ []) ≡ Err (NetworkFull c)
post-stops run c m expected same full =
    subst (λ (k : Message). checked_send c run (run.sent ++ k ∷ []) ≡ Err (NetworkFull c)) same
    (ap (λ (b : Bool). posted_by c run (run.sent ++ m ∷ []) b) (lt-ltb network_limit (network_size (run.sent ++ m ∷ [])) (omega (arith, size_more run.sent m, full))))

-- counts below a command's number are within the format
pub below-limit : (c : ℕ) (counts : List ℕ) → c ≤ 100000 → AreBelow c counts → AreBelow 100001 counts
below-limit c counts few below = each-weaker (λ n. n < c) (λ n. n < 100001) (λ n low. omega (arith, low, few)) counts below
