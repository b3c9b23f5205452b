use Rattle.std.proofs.Common.{◌≡◌, ◌+◌, drop, map}
use Rattle.std.specs.Arc.{arc_value}
use Rattle.lasp_gossip.specs.Network.{size_of}
use Rattle.lasp_gossip.proofs.tally.bytes_of.Given as goal

abbrev pub invariant-loop-message : goal.invariant-loop-message
invariant-loop-message l = l.size + size_of (map arc_value (drop l.message-index l.messages)) ≡ size_of (map arc_value l.messages)
