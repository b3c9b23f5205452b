use Rattle.lasp_core.specs.Reads.{read_of}
use Rattle.tests_cores.specs.declared.work.Work.{Work}
use Rattle.tests_cores.proofs.Kept.{kept-same}
use Rattle.tests_cores.proofs.desk.Desk.take.Goals as goal

pub invariant_of-self-in_err-work : goal.invariant_of-self-in_err-work
invariant_of-self-in_err-work g c =
    kept-same (λ (w : Work). w.job) (λ (w : Work). w.state) read_of c.self.inside.core c.job_of.new.core c.self.inside.works.items c.self.inside.reads.items c.job_of.ensures.frame c.job_of.ensures.entries c.self.invariant

pub invariant_of-self-2 : goal.invariant_of-self-2
invariant_of-self-2 g c =
    kept-same (λ (w : Work). w.job) (λ (w : Work). w.state) read_of c.self.inside.core c.job_of.new.core c.self.inside.works.items c.self.inside.reads.items c.job_of.ensures.frame c.job_of.ensures.entries c.self.invariant
