use Rattle.std.proofs.Common.{◌≡◌, ℕ, subst}
use Rattle.model_journal.specs.Callers.{made_by}
use Rattle.lasp_store.specs.Turn.{Knows}
use Rattle.lasp_store.proofs.SettleLaws.{own-same}
use Rattle.lasp_store.proofs.seated.SeatedJobs.take.Goals as goal

pub returns-in-Ok-Some-clause-own : goal.returns-in-Ok-Some-clause-own
returns-in-Ok-Some-clause-own g c =
    let new = c.take-taken.new.h in
    subst (λ (s : Knows × ℕ). made_by s.0.number new.seen ≡ made_by s.0.number s.0.seen) c.self.view_is
    (own-same c.self.inside.hand new (record { own = c.known.ensures.own; allowed = c.known.ensures.allowed }) (record { own = c.known-2.ensures.own; allowed = c.known-2.ensures.allowed }) c.take-taken.ensures.turn)
