use Rattle.std.proofs.Common.{None}
use Rattle.lasp_replica.proofs.SettledLaws.{process-at, clean-source}
use Rattle.lasp_replica.proofs.replica.Replica.is_clean.Goals as goal

pub returns-in-None : goal.returns-in-None
returns-in-None c =
    let r = c.args.self.now in
    clean-source r c.requires.replica c.args.y (process-at r c.requires.replica c.args.y c.index.result.now None c.requires.var c.index.ensures c.in-None.is)
