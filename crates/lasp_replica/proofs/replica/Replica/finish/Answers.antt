use Rattle.lasp_replica.proofs.FinishLaws.{job-derived, result-small}
use Rattle.lasp_replica.proofs.replica.Replica.finish.Goals as goal

pub base_of-requires-clause-derived : goal.base_of-requires-clause-derived
base_of-requires-clause-derived c = job-derived c.args.self.now c.args.job c.requires.replica c.requires.job

pub finish_late-requires-clause-small : goal.finish_late-requires-clause-small
finish_late-requires-clause-small c = result-small c.args.self.now c.args.job c.args.state c.requires.replica c.requires.job c.requires.result
