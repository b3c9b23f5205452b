use Rattle.std.proofs.Common.{Some, None}
use Rattle.lasp_replica.proofs.SettledLaws.{process-at, none-derived}
use Rattle.lasp_replica.proofs.TakeLaws.{started}
use Rattle.lasp_replica.proofs.replica.Replica.start.Goals as goal

pub returns-in-Some : goal.returns-in-Some
returns-in-Some c =
    let r = c.args.self.now in
    started r c.requires.replica c.args.var c.in-Some.process c.saturating_add-process.result
    (process-at r c.requires.replica c.args.var c.index_mut.result.now (Some c.in-Some.process) c.requires.derived.declared c.index_mut.ensures.value c.in-Some.is) c.saturating_add-process.ensures

pub returns-in_default : goal.returns-in_default
returns-in_default c =
    let r = c.args.self.now in
    absurd (none-derived r c.requires.replica c.args.var (process-at r c.requires.replica c.args.var c.index_mut.result.now None c.requires.derived.declared c.index_mut.ensures.value c.in_default.is) c.requires.derived)
