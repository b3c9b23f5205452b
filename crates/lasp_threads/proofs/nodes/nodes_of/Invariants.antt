use Rattle.std.proofs.Common.{◌≡◌, ◌≤◌, ◌+◌, ◌++◌, length, vec_len, vec_capacity}
use Rattle.lasp_threads.specs.Spots.{unsent}
use Rattle.lasp_threads.proofs.nodes.nodes_of.Given as goal

abbrev pub invariant-loop-p : goal.invariant-loop-p
invariant-loop-p g l = record {
  end : l.p-end ≡ length l.stores;
  items : l.nodes.items ++ unsent l.feeds.items ≡ unsent l.fn.feeds.items;
  size : vec_len l.nodes ≡ l.p;
  left : vec_len l.feeds + l.p ≡ vec_len l.fn.feeds;
  room : length l.stores ≤ vec_capacity l.nodes;
  kept : vec_capacity l.feeds ≡ vec_capacity l.fn.feeds;
}
