use Rattle.lasp_replica.proofs.TakeLaws.{shared-read}
use Rattle.lasp_replica.proofs.replica.Replica.inputs_read.Goals as goal

pub returns-in-Some : goal.returns-in-Some
returns-in-Some c = shared-read c.shared.result c.args.self.now c.requires.replica c.args.var c.args.process.now c.requires.var c.in-Some.kept c.in-Some.is c.shared.ensures
