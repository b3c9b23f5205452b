-- Laws of points and declarations: what the nodes of a run do and show.
use Rattle.std.proofs.Common.{zero, suc, refl, sym, ap, subst, ◌∙◌, arith, get_or, drop, take}
use Rattle.std.specs.Prelude.{◌≡◌, ℕ, ◌+◌, ◌<◌, ◌≤◌, List, [], ◌∷◌, ◌++◌, map, length, Option, Some, None, slice_get, slice_set, replicate, Result, Ok, Err, OnErr}
use Rattle.std.proofs.lemmas.List.{map-append, map-set, length-map, length-set, drop_more, replicate_more}
use Rattle.std.proofs.lemmas.Option.{slice_get_within, get_or_from_slice_get}
use Rattle.model_functions.specs.Library.{Library}
use Rattle.model_graph.specs.Graph.{Decl}
use Rattle.model_graph.specs.Evaluation.{first_large}
use Rattle.model_readings.specs.Lawful.{FitsAll}
use Rattle.model_world.specs.World.{Peer, Run, peer_at, fresh_peer, extended, shown_at, point_from, stop_from}
use Rattle.model_world.specs.declared.stop.Stop.TheVariants.{TooLarge}
use Rattle.model_journal.specs.Entry as model
use Rattle.model_runs.specs.Calls.{fed}
use Rattle.model_runs.specs.Held.{IsHeld}
use Rattle.lasp_drive.specs.Node.{NodeView, Settles, IsNode, IsSettled, AreNodes, AreSettled, HasNoReads, IsFresh, AreFresh, Grew, HoldsLittle, IsStill, OnlyGrew, OnlyLearns, Extends}
use Rattle.lasp_drive.specs.Nodes.{peers_of, calls_of, KeepReads, MaySettle, AllLearn, AllSettled, AllExtend}
use Rattle.lasp_drive.specs.Calls.{GoesOnWithin}
use Rattle.lasp_drive.specs.Waiting.{opened_count}
use Rattle.lasp_drive.specs.declared.node.NodeStop.{NodeStop}
use Rattle.lasp_drive.specs.declared.node.NodeStop.TheVariants as node
use Rattle.lasp_drive.proofs.NodeLaws.{at-set, mapped-at, same-set, nodes-set, node-stays, learned-grew, learned-settled, held-here}
use Rattle.lasp_drive.proofs.WaitLaws.{all-called, opened-kept}
use Rattle.lasp_drive.proofs.MarkLaws.{grow-none, grow-set, grow-then}
use Rattle.lasp_drive.proofs.CallLaws.{within-each}

-- the nodes below a number are settled
abbrev pub AreSettledBelow : ℕ → List NodeView → Type 0
AreSettledBelow many nodes = (p : ℕ) (n : NodeView) → slice_get nodes p ≡ Some n → p < many → IsSettled n

-- a node that stopped at a variable is too large there first
pub stopped-first : (large : Option ℕ) (stop : NodeStop) (y : ℕ) → stop ≡ node.TooLarge y → Settles {A = Unit {0}} large (Err stop) → large ≡ Some y
stopped-first large (node.TooLarge z) y e h = h ∙ ap (λ (n : ℕ). Some n) (let same : z ≡ y = cc in same)
stopped-first large node.Memory y e h = absurd cc

-- the node at a place: what the point does there
point-here : (run : Run) (c p : ℕ) (nodes : List NodeView) (n : NodeView) → slice_get nodes p ≡ Some n → n.decls ≡ run.graph
    → point_from c p (drop p (peers_of nodes)) run ≡ stop_from (first_large 0 (shown_at n.decls n.peer)) c p (point_from c (p + 1) (drop (p + 1) (peers_of nodes)) run)
point-here run c p nodes n at graph =
    ap (λ (rs : List Peer). point_from c p rs run)
    (drop_more (peers_of nodes) p n.peer (subst (λ (k : ℕ). p < k) (sym (length-map nodes (λ (n : NodeView). n.peer))) (slice_get_within nodes p n at))
    ∙ ap (λ (r : Peer). r ∷ drop (p + 1) (peers_of nodes)) (get_or_from_slice_get (peers_of nodes) p n.peer n.peer (mapped-at (λ (n : NodeView). n.peer) nodes p n at)))
    ∙ ap (λ (g : List Decl). stop_from (first_large 0 (shown_at g n.peer)) c p (point_from c (p + 1) (drop (p + 1) (peers_of nodes)) run)) (sym graph)

-- a node that shows too many rows stops the point
pub point-stops : (run : Run) (c p : ℕ) (nodes : List NodeView) (n : NodeView) (x : ℕ) → slice_get nodes p ≡ Some n → n.decls ≡ run.graph
    → first_large 0 (shown_at n.decls n.peer) ≡ Some x → point_from c p (drop p (peers_of nodes)) run ≡ Err (TooLarge c p x)
point-stops run c p nodes n x at graph large =
    point-here run c p nodes n at graph ∙ ap (λ (o : Option ℕ). stop_from o c p (point_from c (p + 1) (drop (p + 1) (peers_of nodes)) run)) large

-- a node that doesn't leaves the point to the nodes behind it
pub point-passes : (run : Run) (c p : ℕ) (nodes : List NodeView) (n new : NodeView) → slice_get nodes p ≡ Some n → n.decls ≡ run.graph → new.peer ≡ n.peer
    → first_large 0 (shown_at n.decls n.peer) ≡ None → point_from c p (drop p (peers_of nodes)) run ≡ point_from c (p + 1) (drop (p + 1) (peers_of (slice_set nodes p new))) run
point-passes run c p nodes n new at graph same few =
    point-here run c p nodes n at graph
    ∙ ap (λ (o : Option ℕ). stop_from o c p (point_from c (p + 1) (drop (p + 1) (peers_of nodes)) run)) few
    ∙ ap (λ (rs : List Peer). point_from c (p + 1) (drop (p + 1) rs) run) (sym (same-set (λ (n : NodeView). n.peer) nodes p n new at same))

-- past all nodes the point changes nothing
pub point-end : (run : Run) (c p : ℕ) (nodes : List NodeView) → length nodes ≤ p → point_from c p (drop p (peers_of nodes)) run ≡ Ok run
point-end run c p nodes past = ap (λ (rs : List Peer). point_from c p rs run) (drop-past (peers_of nodes) p (omega (arith, past, length-map nodes (λ (n : NodeView). n.peer)))) where
  drop-past : (rs : List Peer) (k : ℕ) → length rs ≤ k → drop k rs ≡ []
  drop-past [] zero h = refl
  drop-past [] (suc k) h = refl
  drop-past (r ∷ rs) zero h = absurd (omega (arith, h))
  drop-past (r ∷ rs) (suc k) h = drop-past rs k (omega (arith, h))

-- one node more is settled
pub settled-next : (nodes : List NodeView) (p : ℕ) (new : NodeView) → AreSettledBelow p nodes → IsSettled new → AreSettledBelow (p + 1) (slice_set nodes p new)
settled-next nodes p new below is = at-set (λ q m. q < p + 1 → IsSettled m) nodes p new (λ q m other at low. below q m at (omega (arith, low, other))) (λ _. is)

pub all-settled : (nodes : List NodeView) (p : ℕ) → length nodes ≤ p → AreSettledBelow p nodes → AreSettled nodes
all-settled nodes p past below q n at = below q n at (omega (arith, past, slice_get_within nodes q n at))

-- ---- a declaration

-- the nodes before this one went on, and so did it
pub grown-next : (g : List Decl) (many p : ℕ) (nodes : List NodeView) (new : NodeView) → ((q : ℕ) (n : NodeView) → slice_get nodes q ≡ Some n → q < p → IsNode g many q n) → IsNode g many p new
    → (q : ℕ) (n : NodeView) → slice_get (slice_set nodes p new) q ≡ Some n → q < p + 1 → IsNode g many q n
grown-next g many p nodes new grown here =
    at-set (λ q n. q < p + 1 → IsNode g many q n) nodes p new (λ q n other at low. grown q n at (omega (arith, low, other))) (λ _. here)

-- the nodes behind it are as before
pub nodes-rest : (g : List Decl) (many p : ℕ) (nodes : List NodeView) (new : NodeView) → ((q : ℕ) (n : NodeView) → slice_get nodes q ≡ Some n → p ≤ q → IsNode g many q n)
    → (q : ℕ) (n : NodeView) → slice_get (slice_set nodes p new) q ≡ Some n → p + 1 ≤ q → IsNode g many q n
nodes-rest g many p nodes new rest =
    at-set (λ q n. p + 1 ≤ q → IsNode g many q n) nodes p new (λ q n other at low. rest q n at (omega (arith, low))) (λ low. absurd (omega (arith, low)))

-- what stands at a place among what went on and what didn't
extend-at : {X : Type 0} (f : X → X) (rs : List X) (p : ℕ) (r : X) → p < length rs → r ≡ f (get_or rs p r) → slice_set (map f (take p rs) ++ drop p rs) p r ≡ map f (take (suc p) rs) ++ drop (suc p) rs
extend-at f [] p r within is = absurd (omega (arith, within))
extend-at {X} f (s ∷ rs) zero r within is = ap (λ (t : X). t ∷ rs) is
extend-at {X} f (s ∷ rs) (suc p) r within is = ap (λ (ts : List X). f s ∷ ts) (extend-at f rs p r (omega (arith, within)) is)

here-at : {X : Type 0} (f : X → X) (rs : List X) (p : ℕ) (d : X) → p < length rs → get_or (map f (take p rs) ++ drop p rs) p d ≡ get_or rs p d
here-at f [] p d within = absurd (omega (arith, within))
here-at f (s ∷ rs) zero d within = refl
here-at f (s ∷ rs) (suc p) d within = here-at f rs p d (omega (arith, within))

pub extend-next : {X : Type 0} (of : NodeView → X) (f : X → X) (rs : List X) (nodes : List NodeView) (p : ℕ) (n new : NodeView) → p < length rs → slice_get nodes p ≡ Some n → map of nodes ≡ map f (take p rs) ++ drop p rs → of new ≡ f (of n)
    → map of (slice_set nodes p new) ≡ map f (take (p + 1) rs) ++ drop (p + 1) rs
extend-next {X} of f rs nodes p n new within at before is =
    let old : of n ≡ get_or rs p (of new) =
    sym (get_or_from_slice_get (map of nodes) p (of n) (of new) (mapped-at of nodes p n at)) ∙ ap (λ (ts : List X). get_or ts p (of new)) before ∙ here-at f rs p (of new) within in
    map-set of nodes p new ∙ ap (λ (ts : List X). slice_set ts p (of new)) before
    ∙ extend-at f rs p (of new) within (is ∙ ap f old)
    ∙ ap (λ (k : ℕ). map f (take k rs) ++ drop k rs) (let next : suc p ≡ p + 1 = omega arith in next)

-- ---- the first nodes

pub at-push : {X : Type 0} (P : ℕ → X → Type 0) (xs : List X) (y : X) → ((q : ℕ) (x : X) → slice_get xs q ≡ Some x → P q x) → P (length xs) y → (q : ℕ) (x : X) → slice_get (xs ++ y ∷ []) q ≡ Some x → P q x
at-push P [] y each here zero x e = subst (λ w. P zero w) (let same : y ≡ x = cc in same) here
at-push P [] y each here (suc q) x e = absurd cc
at-push P (z ∷ xs) y each here zero x e = each zero x e
at-push P (z ∷ xs) y each here (suc q) x e = at-push (λ n. P (suc n)) xs y (λ n w h. each (suc n) w h) here q x e

pub length-push : {X : Type 0} (xs : List X) (y : X) (p : ℕ) → length xs ≡ p → length (xs ++ y ∷ []) ≡ p + 1
length-push xs y p size = omega (arith, more xs y, size) where
  more : {X : Type 0} (xs : List X) (y : X) → length (xs ++ y ∷ []) ≡ length xs + 1
  more [] y = refl
  more (x ∷ xs) y = omega (arith, more xs y)

pub nodes-push : (g : List Decl) (many p : ℕ) (nodes : List NodeView) (new : NodeView) → length nodes ≡ p → AreNodes g many nodes → IsNode g many p new → AreNodes g many (nodes ++ new ∷ [])
nodes-push g many p nodes new size each here = at-push (IsNode g many) nodes new each (subst (λ (q : ℕ). IsNode g many q new) (sym size) here)

-- what they have
pub fresh-push : {X : Type 0} (of : NodeView → X) (p : ℕ) (fresh : X) (nodes : List NodeView) (new : NodeView) → map of nodes ≡ replicate p fresh → of new ≡ fresh → map of (nodes ++ new ∷ []) ≡ replicate (p + 1) fresh
fresh-push {X} of p fresh nodes new all is =
    map-append of nodes (new ∷ []) ∙ ap (λ (rs : List X). rs ++ of new ∷ []) all ∙ ap (λ (r : X). replicate p fresh ++ r ∷ []) is ∙ replicate_more p fresh

pub fresh-next : (g : List Decl) (many p : ℕ) (nodes : List NodeView) (new : NodeView) → AreFresh g many p nodes → IsFresh g many p new → AreFresh g many (p + 1) (nodes ++ new ∷ [])
fresh-next g many p nodes new all is = record {
  size = length-push nodes new p all.size;
  nodes_are = nodes-push g many p nodes new all.size all.nodes_are is.node;
  peers = fresh-push (λ (n : NodeView). n.peer) p (fresh_peer g many) nodes new all.peers is.peer;
  calls = fresh-push (λ (n : NodeView). n.calls) p [] nodes new all.calls is.calls;
  reads = at-push (λ q n. HasNoReads n) nodes new all.reads is.reads;
  sent = at-push (λ q n. n.sent ≡ None) nodes new all.sent is.sent;
}

-- ---- all nodes of a run, one after the other

-- a node that opened no read leaves the reads of all
keep-reads : (old now : List NodeView) (p : ℕ) (n new : NodeView) → KeepReads old now → slice_get now p ≡ Some n → Grew n new → KeepReads old (slice_set now p new)
keep-reads old now p n new kept at grew = record {
  counts = same-set opened_count now p n new at (opened-kept new.shown n.reads new.reads grew.released) ∙ kept.counts;
  waiting = λ c opened all. all-called c p now opened n new at grew (kept.waiting c opened all);
  grow = grow-then old now (slice_set now p new) kept.grow (grow-set now p n new at grew.more grew.sent);
}

-- the nodes were asked one after the other
pub learning-begins : (nodes : List NodeView) → AllLearn nodes nodes
learning-begins nodes = record {
  size = refl;
  still = λ p n at. (n, at, record { graph = refl; replica = refl; nodes = refl });
  peers = refl;
  calls = refl;
  settled = λ settled. settled;
  reads = record { counts = refl; waiting = λ c opened all. all; grow = grow-none nodes };
}

pub learning-next : (p : ℕ) (old now : List NodeView) (n new : NodeView) → AllLearn old now → slice_get now p ≡ Some n → OnlyLearns n new → AllLearn old (slice_set now p new)
learning-next p old now n new so_far at learned = record {
  size = length-set now p new ∙ so_far.size;
  still = at-set (λ q m. (k : NodeView) × (slice_get old q ≡ Some k) × IsStill k m) now p new (λ q m _ there. so_far.still q m there)
      (let was = so_far.still p n at in (was.0, was.1, node-stays was.0.decls was.0.among was.0.number n new was.2 learned.learns.still));
  peers = same-set (λ (n : NodeView). n.peer) now p n new at learned.learns.peer ∙ so_far.peers;
  calls = same-set (λ (n : NodeView). n.calls) now p n new at learned.learns.calls ∙ so_far.calls;
  settled = λ settled. at-set (λ q m. IsSettled m) now p new (λ q m _ there. so_far.settled settled q m there) (learned-settled n new learned.learns (so_far.settled settled p n at));
  reads = keep-reads old now p n new so_far.reads at (learned-grew n new learned);
}

pub learning-then : (old mid new : List NodeView) → AllLearn old mid → AllLearn mid new → AllLearn old new
learning-then old mid new first second = record {
  size = second.size ∙ first.size;
  still = λ p n at.
      let one = second.still p n at in
      let two = first.still p one.0 one.1 in
      (two.0, two.1, node-stays two.0.decls two.0.among two.0.number one.0 n two.2 one.2);
  peers = second.peers ∙ first.peers;
  calls = second.calls ∙ first.calls;
  settled = λ settled. second.settled (first.settled settled);
  reads = record { counts = second.reads.counts ∙ first.reads.counts; waiting = λ c opened all. second.reads.waiting c opened (first.reads.waiting c opened all); grow = grow-then old mid new first.reads.grow second.reads.grow };
}

-- they are those of the run that they were of
pub learned-nodes : (g : List Decl) (many : ℕ) (old new : List NodeView) → AllLearn old new → AreNodes g many old → AreNodes g many new
learned-nodes g many old new learn each p n at = let was = learn.still p n at in node-stays g many p was.0 n (each p was.0 was.1) was.2

-- command number c settled the nodes below p
pub record IsSettling (c p : ℕ) (g : List Decl) (old now : List NodeView) : Type 0 where
  pub size : length now ≡ length old
  pub nodes_are : AreNodes g (length old) now
  pub settled : AreSettledBelow p now
  pub peers : peers_of now ≡ peers_of old
  pub calls : calls_of now ≡ calls_of old
  pub reads : KeepReads old now
  pub rest : (run : Run) → run.graph ≡ g → point_from c p (drop p (peers_of now)) run ≡ point_from c 0 (peers_of old) run

pub settling-begins : (c : ℕ) (g : List Decl) (nodes : List NodeView) → AreNodes g (length nodes) nodes → IsSettling c 0 g nodes nodes
settling-begins c g nodes each = record {
  size = refl;
  nodes_are = each;
  settled = λ q n at low. absurd (omega (arith, low));
  peers = refl;
  calls = refl;
  reads = record { counts = refl; waiting = λ c opened all. all; grow = grow-none nodes };
  rest = λ run graph. refl;
}

-- a node of a run may be settled in its turn
pub held-in-turn : (lib : Library) (c p : ℕ) (g : List Decl) (old now : List NodeView) (n : NodeView) → MaySettle lib g old → IsSettling c p g old now → slice_get now p ≡ Some n → HoldsLittle n
held-in-turn lib c p g old now n may so_far at =
    held-here g (length old) now p n (so_far.nodes_are p n at) at
    (subst (λ (rs : List Peer). IsHeld (length old) g (peer_at rs p)) (sym so_far.peers) (may.held p (omega (arith, slice_get_within now p n at, so_far.size))))

pub fits-in-turn : (lib : Library) (c p : ℕ) (g : List Decl) (old now : List NodeView) (n : NodeView) → MaySettle lib g old → IsSettling c p g old now → slice_get now p ≡ Some n → FitsAll lib n.decls
fits-in-turn lib c p g old now n may so_far at = subst (λ (h : List Decl). FitsAll lib h) (sym (so_far.nodes_are p n at).graph) may.fits

pub settling-next : (c p : ℕ) (g : List Decl) (old now : List NodeView) (n new : NodeView) → IsSettling c p g old now → slice_get now p ≡ Some n → OnlyGrew n new → IsSettled new → first_large 0 (shown_at n.decls n.peer) ≡ None → IsSettling c (p + 1) g old (slice_set now p new)
settling-next c p g old now n new so_far at grew settled few =
    let here = so_far.nodes_are p n at in
    record {
      size = length-set now p new ∙ so_far.size;
      nodes_are = nodes-set g (length old) now p new so_far.nodes_are (node-stays g (length old) p n new here grew.still);
      settled = settled-next now p new so_far.settled settled;
      peers = same-set (λ (n : NodeView). n.peer) now p n new at grew.peer ∙ so_far.peers;
      calls = same-set (λ (n : NodeView). n.calls) now p n new at grew.calls ∙ so_far.calls;
      reads = keep-reads old now p n new so_far.reads at grew.grew;
      rest = λ run graph. sym (point-passes run c p now n new at (here.graph ∙ sym graph) grew.peer few) ∙ so_far.rest run graph;
    }

pub settling-stops : (c p : ℕ) (g : List Decl) (old now : List NodeView) (n : NodeView) (x : ℕ) → IsSettling c p g old now → slice_get now p ≡ Some n → first_large 0 (shown_at n.decls n.peer) ≡ Some x → (run : Run) → run.graph ≡ g → point_from c 0 (peers_of old) run ≡ Err (TooLarge c p x)
settling-stops c p g old now n x so_far at large run graph = sym (so_far.rest run graph) ∙ point-stops run c p now n x at ((so_far.nodes_are p n at).graph ∙ sym graph) large

-- a node that stopped took in nothing
pub settling-called : (c p : ℕ) (g : List Decl) (old now : List NodeView) (n new : NodeView) → IsSettling c p g old now → slice_get now p ≡ Some n → OnlyGrew n new → calls_of (slice_set now p new) ≡ calls_of old
settling-called c p g old now n new so_far at grew = same-set (λ (n : NodeView). n.calls) now p n new at grew.calls ∙ so_far.calls

pub settling-ends : (c p : ℕ) (g : List Decl) (old now : List NodeView) → length now ≤ p → IsSettling c p g old now → AllSettled g old now × ((run : Run) → run.graph ≡ g → point_from c 0 (peers_of old) run ≡ Ok run)
settling-ends c p g old now past so_far = (
  record {
    size = so_far.size;
    nodes_are = so_far.nodes_are;
    settled = all-settled now p past so_far.settled;
    peers = so_far.peers;
    calls = so_far.calls;
    reads = so_far.reads;
  },
  λ run graph. sym (so_far.rest run graph) ∙ point-end run c p now past,
)

-- the nodes below p went on with one declaration more
pub record IsExtending (p : ℕ) (before g : List Decl) (d : Decl) (old now : List NodeView) : Type 0 where
  pub size : length now ≡ length old
  pub grown : (q : ℕ) (n : NodeView) → slice_get now q ≡ Some n → q < p → IsNode g (length old) q n
  pub behind : (q : ℕ) (n : NodeView) → slice_get now q ≡ Some n → p ≤ q → IsNode before (length old) q n
  pub peers : peers_of now ≡ map (extended (length old) d) (take p (peers_of old)) ++ drop p (peers_of old)
  pub calls : calls_of now ≡ map (λ h. h ++ fed (model.Extend d) ∷ []) (take p (calls_of old)) ++ drop p (calls_of old)
  pub reads : KeepReads old now

pub extending-begins : (before g : List Decl) (d : Decl) (nodes : List NodeView) → AreNodes before (length nodes) nodes → IsExtending 0 before g d nodes nodes
extending-begins before g d nodes each = record {
  size = refl;
  grown = λ q n at low. absurd (omega (arith, low));
  behind = λ q n at low. each q n at;
  peers = refl;
  calls = refl;
  reads = record { counts = refl; waiting = λ c opened all. all; grow = grow-none nodes };
}

pub extending-next : (p : ℕ) (before g : List Decl) (d : Decl) (old now : List NodeView) (n new : NodeView) → g ≡ before ++ d ∷ [] → IsExtending p before g d old now → slice_get now p ≡ Some n → Extends d n new → IsExtending (p + 1) before g d old (slice_set now p new)
extending-next p before g d old now n new is so_far at done =
    let here = so_far.behind p n at (omega arith) in
    let low : p < length old = omega (arith, slice_get_within now p n at, so_far.size) in
    record {
      size = length-set now p new ∙ so_far.size;
      grown = grown-next g (length old) p now new so_far.grown (record { graph = done.node.graph ∙ ap (λ (h : List Decl). h ++ d ∷ []) here.graph ∙ sym is; replica = done.node.replica ∙ here.replica; nodes = done.node.nodes ∙ here.nodes });
      behind = nodes-rest before (length old) p now new so_far.behind;
      peers = extend-next (λ (n : NodeView). n.peer) (extended (length old) d) (peers_of old) now p n new (omega (arith, low, length-map old (λ (n : NodeView). n.peer))) at so_far.peers
          (done.peer ∙ ap (λ (k : ℕ). extended k d n.peer) here.nodes);
      calls = extend-next (λ (n : NodeView). n.calls) (λ h. h ++ fed (model.Extend d) ∷ []) (calls_of old) now p n new (omega (arith, low, length-map old (λ (n : NodeView). n.calls))) at so_far.calls done.calls;
      reads = keep-reads old now p n new so_far.reads at done.grew;
    }

pub extending-ends : (p : ℕ) (before g : List Decl) (d : Decl) (old now : List NodeView) → length now ≤ p → IsExtending p before g d old now → AllExtend g d old now
extending-ends p before g d old now past so_far = record {
  size = so_far.size;
  nodes_are = λ q n at. so_far.grown q n at (omega (arith, past, slice_get_within now q n at));
  peers = so_far.peers ∙ all-of (extended (length old) d) (peers_of old) p (omega (arith, past, so_far.size, length-map old (λ (n : NodeView). n.peer)));
  calls = so_far.calls ∙ all-of (λ h. h ++ fed (model.Extend d) ∷ []) (calls_of old) p (omega (arith, past, so_far.size, length-map old (λ (n : NodeView). n.calls)));
  reads = so_far.reads;
} where
  all-of : {X : Type 0} (f : X → X) (xs : List X) (p : ℕ) → length xs ≤ p → map f (take p xs) ++ drop p xs ≡ map f xs
  all-of f [] zero past = refl
  all-of f [] (suc p) past = refl
  all-of f (x ∷ xs) zero past = absurd (omega (arith, past))
  all-of {X} f (x ∷ xs) (suc p) past = ap (λ (ys : List X). f x ∷ ys) (all-of f xs p (omega (arith, past)))

-- what holds anyway holds of an error
pub on-stop : {A E P : Type 0} (r : Result A E) → P → OnErr r P
on-stop (Ok a) p = tt
on-stop (Err e) p = p

-- memory was wanting at a node: those below it have gone on
pub extending-stops : (p : ℕ) (before g : List Decl) (d : Decl) (old now : List NodeView) (n new : NodeView) → IsExtending p before g d old now → slice_get now p ≡ Some n → OnlyLearns n new → GoesOnWithin old (slice_set now p new) (λ q. fed (model.Extend d) ∷ [])
extending-stops p before g d old now n new so_far at learned =
    within-each old (slice_set now p new) p (fed (model.Extend d)) (same-set (λ (n : NodeView). n.calls) now p n new at learned.learns.calls ∙ so_far.calls)
