use Rattle.std.proofs.Common.{arith}
use Rattle.lasp_wire.proofs.Lengths.{numbers_len}
use Rattle.lasp_wire.proofs.length.states.counter_len.Goals as goal

pub returns : goal.returns
returns c = omega (arith, numbers_len c.args.counter.now, c.nodes.ensures)
