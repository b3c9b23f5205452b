use Rattle.std.proofs.Common.{rules, ◌<◌, length, sym, subst}
use Rattle.lasp_state.specs.declared.state.State.{State}
use Rattle.lasp_replica.specs.declared.job.Job.{Job}
use Rattle.lasp_replica.specs.Jobs.{IsJobOf, IsResultOf}
use Rattle.lasp_core.specs.Reads.{read_of}
use Rattle.tests_cores.specs.declared.work.Work.{Work}
use Rattle.tests_cores.proofs.Kept.{kept-next, kept-remove, work-at}
use Rattle.tests_cores.proofs.desk.Desk.end.Goals as goal

pub hand_in-requires-clause-job : goal.hand_in-requires-clause-job
hand_in-requires-clause-job c =
    let old = c.self.inside in
    let low : c.args.place < length old.works.items = search rules in
    let is = work-at (λ (w : Work). w.job) (λ (w : Work). w.state) read_of old.core old.works.items old.reads.items c.args.place c.remove.result low c.remove.ensures.value c.self.invariant in
    subst (λ (job : Job). IsJobOf old.core.frame old.core.entries job) (sym c.into_parts-job.ensures.job) is.job_is

pub hand_in-requires-clause-result : goal.hand_in-requires-clause-result
hand_in-requires-clause-result c =
    let old = c.self.inside in
    let low : c.args.place < length old.works.items = search rules in
    let is = work-at (λ (w : Work). w.job) (λ (w : Work). w.state) read_of old.core old.works.items old.reads.items c.args.place c.remove.result low c.remove.ensures.value c.self.invariant in
    subst (λ (job : Job). IsResultOf old.core.frame old.core.entries job c.into_parts-job.result.1) (sym c.into_parts-job.ensures.job)
    (subst (λ (s : State). IsResultOf old.core.frame old.core.entries c.remove.result.job s) (sym c.into_parts-job.ensures.state) is.result_is)

pub invariant_of-self : goal.invariant_of-self
invariant_of-self c =
    let old = c.self.inside in
    kept-next (λ (w : Work). w.job) (λ (w : Work). w.state) read_of c.jobs_stay.ensures.job c.jobs_stay.ensures.result c.reads_stay_open.ensures
    old.core c.hand_in.new.core c.remove.new.self.items old.reads.items c.hand_in.ensures.frame c.hand_in.ensures.entries
    (kept-remove (λ (w : Work). w.job) (λ (w : Work). w.state) read_of old.core old.works.items c.remove.new.self.items old.reads.items c.args.place c.remove.ensures.items c.self.invariant)
