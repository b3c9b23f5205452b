use Rattle.std.proofs.Common.{arith}
use Rattle.lasp_wire.proofs.Rising.{counts_small}
use Rattle.lasp_wire.proofs.read.states.counter_in.Goals as goal

pub counter_of-requires-clause-small : goal.counter_of-requires-clause-small
counter_of-requires-clause-small c = rw c.deref.ensures.value (counts_small c.args.nodes c.args.bytes.now c.in_ok-counts.rest.now c.in_ok-counts.counts.items (λ i. omega (arith, c.type_inv.bytes i)) c.in_ok-counts.ensures.exact)
