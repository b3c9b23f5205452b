use Rattle.std.proofs.Common.{arith}
use Rattle.lasp_log.proofs.LogLaws.{joined-pair}
use Rattle.lasp_log.proofs.log.join_last.Goals as goal

pub returns-clause-joined : goal.returns-clause-joined
returns-clause-joined g c =
    joined-pair c.args.chunks.now.items c.truncate.new.self.items c.push_reserved.new.self.items c.len-count.result c.index.result.now c.index-2.result.now c.in_ok-whole.whole
    (omega (arith, c.len-count.ensures, c.args.chunks.now.ok.0)) c.requires c.index.ensures c.index-2.ensures c.in_ok-whole.ensures c.truncate.ensures.items c.push_reserved.ensures.items
