use Rattle.std.proofs.Common.{List, length, sym, ap, subst, arith}
use Rattle.std.specs.Prelude.{All}
use Rattle.std.specs.Vec.Iter.{into_iter_items}
use Rattle.std.proofs.lemmas.List.Elements.{All-push}
use Rattle.lasp_store.specs.Turn.{Knows}
use Rattle.lasp_store_node.specs.View.{IsFeed}
use Rattle.lasp_threads.specs.Spots.{feeds_of}
use Rattle.lasp_threads.proofs.ListLaws.{moved}
use Rattle.lasp_threads.proofs.nodes.give_feeds.Goals as goal

pub unreachable-requires : goal.unreachable-requires
unreachable-requires g c = omega (arith, c.in-Err.ensures.full, c.loop-node.invariant.room, ap length c.in-Some.ensures.items)

pub loop-node-preserved : goal.loop-node-preserved
loop-node-preserved g c = record {
  items = moved c.push.new.self.items c.loop-node.feeds.items (feeds_of (into_iter_items c.next.new.self)) (feeds_of (into_iter_items c.loop-node.left)) (feeds_of c.args.nodes.items) c.in-Some.node.feed c.into_feed.result c.into_feed.ensures.feed c.in-Ok.ensures.items
      (ap feeds_of c.in-Some.ensures.items) c.loop-node.invariant.items;
  room = omega (arith, c.in-Ok.ensures.len, c.in-Ok.ensures.capacity, c.loop-node.invariant.room, ap length c.in-Some.ensures.items);
  are = subst (λ (l : List Knows). All (λ (f : Knows). IsFeed f.lock f) l) (sym c.in-Ok.ensures.items) (All-push (λ (f : Knows). IsFeed f.lock f) c.loop-node.feeds.items c.into_feed.result c.loop-node.invariant.are c.into_feed.ensures.is_feed);
}
