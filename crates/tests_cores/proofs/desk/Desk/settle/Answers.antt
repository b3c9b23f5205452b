use Rattle.lasp_core.specs.Reads.{read_of}
use Rattle.tests_cores.specs.declared.work.Work.{Work}
use Rattle.tests_cores.proofs.Kept.{kept-next}
use Rattle.tests_cores.proofs.desk.Desk.settle.Goals as goal

pub invariant_of-self : goal.invariant_of-self
invariant_of-self g c =
    kept-next (λ (w : Work). w.job) (λ (w : Work). w.state) read_of c.jobs_stay.ensures.job c.jobs_stay.ensures.result c.reads_stay_open.ensures
    c.self.inside.core c.settle.new.core c.self.inside.works.items c.self.inside.reads.items c.settle.ensures.frame c.settle.ensures.entries c.self.invariant
