use Rattle.std.proofs.Common.{subst}
use Rattle.std.specs.Prelude.{Option, IfSome, is_ok}
use Rattle.lasp_core.specs.declared.read.ReadNo.{ReadNo}
use Rattle.lasp_core.specs.Core.{IsOpen}
use Rattle.lasp_core.specs.Reads.{read_of}
use Rattle.tests_cores.specs.declared.work.Work.{Work}
use Rattle.tests_cores.proofs.Kept.{kept-same, kept-open}
use Rattle.tests_cores.proofs.desk.Desk.open.Goals as goal

pub invariant_of-self-2 : goal.invariant_of-self-2
invariant_of-self-2 c =
    let new = c.open.new.core in
    let old = c.self.inside in
    kept-open (λ (w : Work). w.job) (λ (w : Work). w.state) read_of new old.works.items old.reads.items c.push.new.self.items c.in-Some.read (is_ok c.push.result) c.push.ensures.items
    (kept-same (λ (w : Work). w.job) (λ (w : Work). w.state) read_of old.core new old.works.items old.reads.items c.open.ensures.frame c.open.ensures.entries c.self.invariant)
    (subst (λ (o : Option ReadNo). IfSome o (λ r. IsOpen new.frame new.entries (read_of r))) c.in-Some.is c.in_ok-read.ensures.open)
