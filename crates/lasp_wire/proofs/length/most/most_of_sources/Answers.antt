use Rattle.std.proofs.Common.{arith}
use Rattle.lasp_wire.specs.Sent.{sent_of}
use Rattle.lasp_wire.proofs.MostLaws.{next_most}
use Rattle.lasp_wire.proofs.length.most.most_of_sources.Goals as goal

pub loop-source-preserved : goal.loop-source-preserved
loop-source-preserved c =
    next_most sent_of c.args.sources.now c.loop-source.source-index c.source-item.result c.loop-source.len c.most_of_source.result c.saturating_add-len.result c.loop-source-test.true c.source-item.is c.loop-source.invariant c.most_of_source.ensures (omega arith)
