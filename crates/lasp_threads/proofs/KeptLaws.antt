-- Feeds that made hands and took them back are the feeds that they were, and learned at most.
use Rattle.std.proofs.Common.{◌≡◌, ℕ, List, refl, sym, subst, ◌∙◌, append-nil, []}
use Rattle.std.specs.Prelude.{Some, slice_get, slice_set}
use Rattle.std.proofs.lemmas.List.{length-set}
use Rattle.std.proofs.lemmas.Option.{same_Some}
use Rattle.lasp_histlock.specs.Names.{LockId}
use Rattle.lasp_drive.specs.Node.{NodeView}
use Rattle.lasp_drive.specs.Nodes.{AllLearn}
use Rattle.lasp_drive.proofs.NodeLaws.{at-set, mapped-at, same-set, seen-set}
use Rattle.lasp_drive.proofs.PointLaws.{learning-begins, learning-next, learning-then}
use Rattle.lasp_store.specs.Turn.{Knows}
use Rattle.lasp_store.proofs.SettleLaws.{goes-both}
use Rattle.lasp_store_node.specs.View.{IsFeed}
use Rattle.lasp_threads.specs.Spots.{AreFeeds, feed_seen, nodes_seen, HasGrown, IsKept, AreKept}

-- the stores have these feeds, also with a new one in its place
pub feeds-set : (stores : List LockId) (feeds : List Knows) (p : ℕ) (lock : LockId) (new : Knows) → AreFeeds stores feeds → slice_get stores p ≡ Some lock → IsFeed lock new → AreFeeds stores (slice_set feeds p new)
feeds-set stores feeds p lock new are store is = record {
  size = length-set feeds p new ∙ are.size;
  each = λ q other f there at. at-set (λ r (g : Knows). (l : LockId) → slice_get stores r ≡ Some l → IsFeed l g) feeds p new (λ r g _ here l place. are.each r l g place here)
      (λ l place. subst (λ (k : LockId). IsFeed k new) (same_Some lock l (sym store ∙ place)) is) q f at other there;
}

pub kept-begins : (stores : List LockId) (feeds : List Knows) → AreFeeds stores feeds → AreKept stores feeds feeds
kept-begins stores feeds are = record { feeds = are; frames = refl; learn = learning-begins (nodes_seen feeds); seen = λ p f at. record { was = f; at = at; grew = ([], sym (append-nil f.seen), tt) } }

pub kept-next : (stores : List LockId) (old now : List Knows) (p : ℕ) (lock : LockId) (f new : Knows) → AreKept stores old now → slice_get stores p ≡ Some lock → slice_get now p ≡ Some f → IsKept lock f new → AreKept stores old (slice_set now p new)
kept-next stores old now p lock f new so_far store at kept = record {
  feeds = feeds-set stores now p lock new so_far.feeds store kept.feed;
  frames = same-set (λ (g : Knows). g.frame) now p f new at kept.frame ∙ so_far.frames;
  learn = seen-set feed_seen now p new (λ (nodes : List NodeView). AllLearn (nodes_seen old) nodes)
      (learning-next p (nodes_seen old) (nodes_seen now) (feed_seen f) (feed_seen new) so_far.learn (mapped-at feed_seen now p f at) kept.learns);
  seen = at-set (HasGrown old) now p new (λ q g other here. so_far.seen q g here)
      (let grown : HasGrown old p f = so_far.seen p f at in record { was = grown.was; at = grown.at; grew = goes-both grown.was.seen f.seen new.seen grown.grew kept.seen });
}

pub kept-then : (stores : List LockId) (old mid new : List Knows) → AreKept stores old mid → AreKept stores mid new → AreKept stores old new
kept-then stores old mid new first second = record {
  feeds = second.feeds;
  frames = second.frames ∙ first.frames;
  learn = learning-then (nodes_seen old) (nodes_seen mid) (nodes_seen new) first.learn second.learn;
  seen = λ p f at. (let next : HasGrown mid p f = second.seen p f at in let before : HasGrown old p next.was = first.seen p next.was next.at in
      record { was = before.was; at = before.at; grew = goes-both before.was.seen next.was.seen f.seen before.grew next.grew });
}
