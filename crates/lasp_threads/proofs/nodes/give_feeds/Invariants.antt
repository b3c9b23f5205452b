use Rattle.std.proofs.Common.{◌≡◌, ◌≤◌, ◌+◌, ◌++◌, length, vec_len, vec_capacity}
use Rattle.std.specs.Prelude.{All}
use Rattle.std.specs.Vec.Iter.{into_iter_items}
use Rattle.lasp_store_node.specs.View.{IsFeed}
use Rattle.lasp_threads.specs.Spots.{feeds_of}
use Rattle.lasp_threads.proofs.nodes.give_feeds.Given as goal

abbrev pub invariant-loop-node : goal.invariant-loop-node
invariant-loop-node g l = record {
  items : l.feeds.items ++ feeds_of (into_iter_items l.left) ≡ feeds_of l.fn.nodes.items;
  room : vec_len l.feeds + length (into_iter_items l.left) ≤ vec_capacity l.feeds;
  are : All (λ f. IsFeed f.lock f) l.feeds.items;
}

abbrev pub decreases-loop-node : goal.decreases-loop-node
decreases-loop-node g l = length (into_iter_items l.left)
