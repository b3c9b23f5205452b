use Rattle.lasp_graph.specs.States.{contents_of}
use Rattle.lasp_gossip.specs.Exchange.{IsBegun}
use Rattle.lasp_gossip.proofs.compose.message_of.Given as goal

abbrev pub invariant-loop-x : goal.invariant-loop-x
invariant-loop-x l = IsBegun l.g (contents_of l.sources) l.counts l.x l.m
