use Rattle.std.proofs.Common.{ℕ, sym, subst}
use Rattle.model_core.specs.Core.{Core}
use Rattle.lasp_replica.specs.Replica.{frame_of, entries_of, busy_of}
use Rattle.lasp_replica.specs.Jobs.{IsNext}
use Rattle.lasp_core.proofs.replica_core.Core.take.Goals as goal

pub returns-in_ok-take_var-in-Some-clause-next : goal.returns-in_ok-take_var-in-Some-clause-next
returns-in_ok-take_var-in-Some-clause-next c =
    subst (λ (s : Core). IsNext s.frame s.entries s.busy c.in_ok-take_var-in-Some.field-0.var) c.self.view_is
    (subst (λ (y : ℕ). IsNext (frame_of c.self.inside.replica) (entries_of c.self.inside.replica) (busy_of c.self.inside.replica) y) (sym c.in_ok-take_var-in-Some.ensures.job.var) c.in-Some.ensures.some)
