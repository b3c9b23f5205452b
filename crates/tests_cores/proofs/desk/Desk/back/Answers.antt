use Rattle.lasp_core.specs.Reads.{read_of}
use Rattle.tests_cores.specs.declared.work.Work.{Work}
use Rattle.tests_cores.proofs.Kept.{kept-same, kept-remove}
use Rattle.tests_cores.proofs.desk.Desk.back.Goals as goal

pub invariant_of-self : goal.invariant_of-self
invariant_of-self c =
    let old = c.self.inside in
    kept-same (λ (w : Work). w.job) (λ (w : Work). w.state) read_of old.core c.give_back.new.core c.remove.new.self.items old.reads.items c.give_back.ensures.frame c.give_back.ensures.entries
    (kept-remove (λ (w : Work). w.job) (λ (w : Work). w.state) read_of old.core old.works.items c.remove.new.self.items old.reads.items c.args.place c.remove.ensures.items c.self.invariant)
