use Rattle.std.proofs.Common.{Some, None}
use Rattle.lasp_replica.proofs.SettledLaws.{process-at, none-derived}
use Rattle.lasp_replica.proofs.replica.Replica.take_ready.Goals as goal

pub unreachable-requires : goal.unreachable-requires
unreachable-requires c =
    let r = c.args.self.now in
    none-derived r c.requires.replica c.args.var (process-at r c.requires.replica c.args.var c.index.result.now None c.requires.derived.declared c.index.ensures c.in-None.is) c.requires.derived

pub job-requires-clause-var : goal.job-requires-clause-var
job-requires-clause-var c = process-at c.args.self.now c.requires.replica c.args.var c.index.result.now (Some c.in-Some.process) c.requires.derived.declared c.index.ensures c.in-Some.is
