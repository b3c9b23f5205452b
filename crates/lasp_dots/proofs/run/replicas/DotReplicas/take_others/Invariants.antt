use Rattle.std.proofs.Common.{◌≡◌, ◌≤◌, length}
use Rattle.std.specs.List.{range_with_len}
use Rattle.model_dots.specs.DotWorld.{dot_each}
use Rattle.lasp_dots.proofs.WorldLaws.{takes_of}
use Rattle.lasp_dots.proofs.run.replicas.DotReplicas.take_others.Given as goal

abbrev pub invariant-loop-q : goal.invariant-loop-q
invariant-loop-q l = record {
  within : l.q ≤ length l.fn.self.nodes;
  size : length l.self.nodes ≡ length l.fn.self.nodes;
  sent : length l.self.sent ≡ length l.fn.self.sent;
  done : l.self ≡ dot_each l.fn.self (takes_of l.i l.p (range_with_len 0 l.q));
}
