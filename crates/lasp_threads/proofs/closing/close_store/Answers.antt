use Rattle.lasp_threads.proofs.ClosedLaws.{none-out, closed-of}
use Rattle.lasp_threads.proofs.closing.close_store.Goals as goal

pub unreachable-requires : goal.unreachable-requires
unreachable-requires c = none-out c.args.store c.args.feed c.requires c.in-None.ensures.none

pub returns : goal.returns
returns c = closed-of c.args.feed c.in-Some.core c.in-Some.ensures.frame c.in-Some.ensures.list c.in-Some.ensures.others c.in-Some.ensures.allowed c.recall.ensures.core.legal
