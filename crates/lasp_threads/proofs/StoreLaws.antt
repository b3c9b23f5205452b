-- Feeds before a run over their stores, and when they are given back.
use Rattle.std.proofs.Common.{◌≡◌, ℕ, ◌+◌, ◌<◌, ◌≤◌, true, List, [], ◌∷◌, ◌++◌, map, length, replicate, inl, inr, ◌⊎◌, refl, sym, ap, subst, ◌∙◌, arith}
use Rattle.std.specs.Prelude.{Some, None, slice_get, All}
use Rattle.std.proofs.lemmas.List.{length-map}
use Rattle.std.proofs.lemmas.Option.{slice_get_within, get_or_from_slice_get}
use Rattle.model_graph.specs.Graph.{Decl}
use Rattle.model_graph.specs.Lawful as graphs
use Rattle.model_readings.specs.Lawful.{IsGraph}
use Rattle.model_readings.proofs.Forms.{graph-accepted}
use Rattle.model_journal.specs.Entry.{Entry, Frame}
use Rattle.model_runs.specs.Calls.{unbound}
use Rattle.model_world.specs.Command.{Script}
use Rattle.model_world.specs.World.{fresh_peer}
use Rattle.lasp_histlock.specs.History.{among}
use Rattle.lasp_histlock.specs.Names.{LockId}
use Rattle.lasp_histlock.specs.Passes.{first_pass}
use Rattle.lasp_drive.specs.Calls.{calls_at}
use Rattle.lasp_drive.specs.Node.{NodeView, IsNode, IsFresh, AreFresh, HasNoReads, HaveNoReads}
use Rattle.lasp_drive.proofs.NodeLaws.{mapped-at, mapped-or}
use Rattle.lasp_drive.proofs.PointLaws.{length-push}
use Rattle.lasp_store.specs.Turn.{Knows}
use Rattle.lasp_store_node.specs.View.{Place, place_of, IsFeed}
use Rattle.lasp_store_node.proofs.FeedLaws.{fresh-node}
use Rattle.lasp_threads.specs.Ran.{HaveEnded, HaveBegun}
use Rattle.lasp_threads.specs.Spots.{Spot, IsOut, HasOut, HaveOut, HaveMade, AreFeeds, feed_seen, nodes_seen, AreKept}
use Rattle.lasp_threads.specs.Stores.{frame_at, AreFirst, IsBack, AreBack, HaveRun, HaveStopped}
use Rattle.lasp_threads.proofs.ListLaws.{at-place, at-or-last, mapped-from, same-at, same-length, map-twice, map-same}

-- ---- the feeds that come with stores

-- the stores of the nodes below p were made
pub record AreMade (g : List Decl) (many p : ℕ) (stores : List LockId) (feeds : List Knows) : Type 0 where
  pub stores_are : length stores ≡ p
  pub feeds_are : length feeds ≡ p
  pub first : (q : ℕ) (lock : LockId) (f : Knows) → slice_get stores q ≡ Some lock → slice_get feeds q ≡ Some f → f ≡ first_pass lock (frame_at g many q)

pub made-next : (g : List Decl) (many p : ℕ) (stores : List LockId) (feeds : List Knows) (lock : LockId) (f : Knows) → AreMade g many p stores feeds → f ≡ first_pass lock (frame_at g many p) → AreMade g many (p + 1) (stores ++ lock ∷ []) (feeds ++ f ∷ [])
made-next g many p stores feeds lock f so_far is = record {
  stores_are = length-push stores lock p so_far.stores_are;
  feeds_are = length-push feeds f p so_far.feeds_are;
  first = λ q l h store at. by q l h (at-or-last stores lock q l store) (at-or-last feeds f q h at);
} where
  by : (q : ℕ) (l : LockId) (h : Knows) → (slice_get stores q ≡ Some l) ⊎ ((q ≡ length stores) × (lock ≡ l)) → (slice_get feeds q ≡ Some h) ⊎ ((q ≡ length feeds) × (f ≡ h)) → h ≡ first_pass l (frame_at g many q)
  by q l h (inl store) (inl at) = so_far.first q l h store at
  by q l h (inl store) (inr last) = absurd (omega (arith, slice_get_within stores q l store, last.0, so_far.stores_are, so_far.feeds_are))
  by q l h (inr last) (inl at) = absurd (omega (arith, slice_get_within feeds q h at, last.0, so_far.stores_are, so_far.feeds_are))
  by q l h (inr here) (inr last) = sym last.1 ∙ is ∙ (λ i. first_pass (here.1 i) (frame_at g many (place i))) where
    place : p ≡ q
    place = omega (arith, here.0, so_far.stores_are)

fresh-feed : (lock : LockId) (X : Frame) → graphs.IsGraph X.opening → X.replica < X.nodes → IsFeed lock (first_pass lock X)
fresh-feed lock X graph member = record { seated = record { lock = refl; idle = refl; framed = refl; legal = record { opening = graph; member = member; in_turn = tt } }; first = refl }

pub first-feeds : (g : List Decl) (stores : List LockId) (feeds : List Knows) → IsGraph g → AreFirst g stores feeds → AreFeeds stores feeds
first-feeds g stores feeds graph are = record {
  size = are.size;
  each = λ p lock f store at. subst (λ (q : Knows). IsFeed lock q) (sym (are.first p lock f store at)) (fresh-feed lock (frame_at g (length stores) p) (graph-accepted g graph) (slice_get_within stores p lock store));
}

-- what is said of a feed and its store is said of each feed
each-first : (P : ℕ → Knows → Type 0) (g : List Decl) (stores : List LockId) (feeds : List Knows) → AreFirst g stores feeds → ((p : ℕ) (lock : LockId) → P p (first_pass lock (frame_at g (length stores) p))) → (p : ℕ) (f : Knows) → slice_get feeds p ≡ Some f → P p f
each-first P g stores feeds are each p f at =
    let store = at-place stores p (omega (arith, slice_get_within feeds p f at, are.size)) in
    subst (λ (q : Knows). P p q) (sym (are.first p store.0 f store.1 at)) (each p store.0)

pub first-made : (g : List Decl) (stores : List LockId) (feeds : List Knows) → AreFirst g stores feeds → HaveMade 1 feeds
first-made g stores feeds are = each-first (λ p f. f.made ≤ 1) g stores feeds are (λ p lock. omega arith)

pub first-out : (g : List Decl) (stores : List LockId) (feeds : List Knows) → AreFirst g stores feeds → HaveOut [] feeds
first-out g stores feeds are = each-first (λ p f. HasOut [] p f) g stores feeds are (λ p lock k some low. absurd (omega (arith, some, low)))

-- their reads aren't told
pub feeds-unread : (feeds : List Knows) → HaveNoReads (nodes_seen feeds)
feeds-unread feeds p n at = let from = mapped-from feed_seen feeds p n at in subst (λ (m : NodeView). HasNoReads m) (sym from.2) tt

pub first-fresh : (g : List Decl) (many : ℕ) (stores : List LockId) (feeds : List Knows) → length stores ≡ many → AreFirst g stores feeds → AreFresh g many many (nodes_seen feeds)
first-fresh g many stores feeds size are = subst (λ (n : ℕ). AreFresh g n n (nodes_seen feeds)) size (record {
  size = length-map feeds feed_seen ∙ are.size;
  nodes_are = λ p n at. let from = mapped-from feed_seen feeds p n at in subst (λ (m : NodeView). IsNode g (length stores) p m) (sym from.2) (fresh p from.0 from.1).node;
  peers = map-twice feed_seen (λ (n : NodeView). n.peer) feeds ∙ map-same (λ (f : Knows). (feed_seen f).peer) (fresh_peer g (length stores)) feeds (λ p f at. (fresh p f at).peer)
      ∙ ap (λ (n : ℕ). replicate n (fresh_peer g (length stores))) are.size;
  calls = map-twice feed_seen (λ (n : NodeView). n.calls) feeds ∙ map-same (λ (f : Knows). (feed_seen f).calls) [] feeds (λ p f at. (fresh p f at).calls) ∙ ap (λ (n : ℕ). replicate n []) are.size;
  reads = feeds-unread feeds;
  sent = λ p n at. let from = mapped-from feed_seen feeds p n at in subst (λ (m : NodeView). m.sent ≡ None) (sym from.2) refl;
}) where
  fresh : (p : ℕ) (f : Knows) → slice_get feeds p ≡ Some f → IsFresh g (length stores) p (feed_seen f)
  fresh p f at =
      let store = at-place stores p (omega (arith, slice_get_within feeds p f at, are.size)) in
      fresh-node store.0 (frame_at g (length stores) p) f (are.first p store.0 f store.1 at)

-- ---- feeds that were nodes of a run, and are where they were

pub placed-feeds : (stores : List LockId) (old new : List Knows) → AreFeeds stores old → map place_of new ≡ map place_of old → All (λ (f : Knows). IsFeed f.lock f) new → AreFeeds stores new
placed-feeds stores old new are placed feeds = record { size = same-length place_of old new placed ∙ are.size; each = each } where
  each : (p : ℕ) (lock : LockId) (f : Knows) → slice_get stores p ≡ Some lock → slice_get new p ≡ Some f → IsFeed lock f
  each p lock f store at =
      let was = same-at place_of old new p f placed at in
      let here : f.lock ≡ lock = ap (λ (q : Place). q.lock) was.2 ∙ (are.each p lock was.0 store was.1).seated.lock in
      let feed : IsFeed f.lock f = subst (λ (q : Knows). IsFeed q.lock q) (get_or_from_slice_get new p f f at) (feeds p f (slice_get_within new p f at)) in
      subst (λ (l : LockId). IsFeed l f) here feed

pub placed-out : (spots : List Spot) (old new : List Knows) → HaveOut spots old → map place_of new ≡ map place_of old → HaveOut spots new
placed-out spots old new out placed p f at k some low =
    let was = same-at place_of old new p f placed at in
    subst (λ (b : List ℕ). (among k b ≡ true) ⊎ IsOut p k spots) (sym (ap (λ (q : Place). q.back) was.2)) (out p was.0 was.1 k some (omega (arith, low, ap (λ (q : Place). q.made) was.2)))

placed-frames : (old new : List Knows) → map place_of new ≡ map place_of old → map (λ (f : Knows). f.frame) new ≡ map (λ (f : Knows). f.frame) old
placed-frames old new placed =
    sym (map-twice place_of (λ (q : Place). q.frame) new) ∙ ap (map (λ (q : Place). q.frame)) placed ∙ map-twice place_of (λ (q : Place). q.frame) old

-- ---- feeds that are given back

-- hands were made, then the run was done, and then the hands came back
pub all-back : (g : List Decl) (stores : List LockId) (first seated ran last : List Knows) → AreFirst g stores first → AreKept stores first seated → map place_of ran ≡ map place_of seated → AreKept stores ran last → HaveOut [] last → AreBack g stores last
all-back g stores first seated ran last are before placed behind out = record { size = behind.feeds.size; each = each } where
  frames : map (λ (f : Knows). f.frame) last ≡ map (λ (f : Knows). f.frame) first
  frames = behind.frames ∙ placed-frames seated ran placed ∙ before.frames

  back : (p k : ℕ) (b : List ℕ) → (among k b ≡ true) ⊎ IsOut p k [] → among k b ≡ true
  back p k b (inl is) = is
  back p k b (inr none) = absurd none

  each : (p : ℕ) (lock : LockId) (f : Knows) → slice_get stores p ≡ Some lock → slice_get last p ≡ Some f → IsBack lock (frame_at g (length stores) p) f
  each p lock f store at =
      let was = same-at (λ (q : Knows). q.frame) first last p f frames at in
      record {
        feed = behind.feeds.each p lock f store at;
        frame = was.2 ∙ ap (λ (q : Knows). q.frame) (are.first p lock was.0 store was.1);
        hands = λ k some low. back p k f.back (out p f at k some low);
      }

-- what was called at a node is what stands in its journal
called-there : (feeds : List Knows) (p : ℕ) (f : Knows) → slice_get feeds p ≡ Some f → calls_at (nodes_seen feeds) p ≡ unbound f.seen
called-there feeds p f at = mapped-or (λ (n : NodeView). n.calls) (nodes_seen feeds) p (feed_seen f) [] (mapped-at feed_seen feeds p f at)

pub ended-run : (g : List Decl) (script : Script) (feeds : List Knows) → length feeds ≡ script.nodes → HaveEnded g script (nodes_seen feeds) → HaveRun g script feeds
ended-run g script feeds size ran = record {
  calls = λ p f at. sym (called-there feeds p f at) ∙ ran.calls p (omega (arith, slice_get_within feeds p f at, size));
  peers = λ run is. sym (map-twice feed_seen (λ (n : NodeView). n.peer) feeds) ∙ ran.peers run is;
  evaluated = λ p f at. ran.settled p (feed_seen f) (mapped-at feed_seen feeds p f at);
}

pub begun-stopped : (g : List Decl) (script : Script) (feeds : List Knows) → length feeds ≡ script.nodes → HaveBegun g script (nodes_seen feeds) → HaveStopped g script feeds
begun-stopped g script feeds size begun p f at =
    let part = begun p (omega (arith, slice_get_within feeds p f at, size)) in
    (part.0, ap (λ (h : List Entry). h ++ part.0) (sym (called-there feeds p f at)) ∙ part.1)
