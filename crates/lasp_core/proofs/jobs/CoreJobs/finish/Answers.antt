use Rattle.model_journal.specs.Entry as model
use Rattle.model_journal.specs.Entry.{entry}
use Rattle.lasp_core.proofs.CoresLaws.{finished-met, finished-own, refused-goes-on}
use Rattle.lasp_core.proofs.jobs.CoreJobs.finish.Goals as goal

pub returns-clause-met : goal.returns-clause-met
returns-clause-met c =
    finished-met c.args.self.now c.finish.new.self (entry 0 (model.Bind c.args.job.var c.args.job.n)) c.args.job.var c.recall.ensures.core c.finish.result c.finish.ensures.ok c.finish.ensures.released

pub returns-clause-err : goal.returns-clause-err
returns-clause-err c = refused-goes-on c.args.self.now c.finish.new.self c.finish.result c.finish.ensures.err

pub returns-clause-own_ok : goal.returns-clause-own_ok
returns-clause-own_ok c = finished-own c.args.self.now c.finish.new.self (model.Bind c.args.job.var c.args.job.n) c.args.job.var c.finish.result c.finish.ensures.ok
