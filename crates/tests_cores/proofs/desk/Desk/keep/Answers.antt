use Rattle.std.proofs.Common.{sym, subst}
use Rattle.std.specs.Prelude.{is_ok}
use Rattle.model_core.specs.Core.{Core}
use Rattle.lasp_core.specs.Reads.{read_of}
use Rattle.tests_cores.specs.declared.work.Work.{Work}
use Rattle.tests_cores.specs.Kept.{IsWork}
use Rattle.tests_cores.proofs.Kept.{kept-push}
use Rattle.tests_cores.proofs.desk.Desk.keep.Goals as goal

pub invariant_of-self : goal.invariant_of-self
invariant_of-self c =
    kept-push (λ (w : Work). w.job) (λ (w : Work). w.state) read_of c.self.inside.core c.self.inside.works.items c.push.new.self.items c.self.inside.reads.items
    c.args.work (is_ok c.push.result) c.push.ensures.items c.self.invariant
    (subst (λ (k : Core). IsWork k.frame k.entries c.args.work.job c.args.work.state) (sym c.self.view_is) c.requires)
