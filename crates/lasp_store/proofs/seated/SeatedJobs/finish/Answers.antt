use Rattle.std.proofs.Common.{◌≡◌, ℕ, ◌++◌, ◌∷◌, [], subst}
use Rattle.std.specs.Prelude.{OnOk, OnErr}
use Rattle.model_journal.specs.Entry.{Bind, entry}
use Rattle.model_journal.specs.Callers.{made_by}
use Rattle.lasp_store.specs.Turn.{Knows}
use Rattle.lasp_store.proofs.TurnLaws.{on-ok, on-err}
use Rattle.lasp_store.proofs.SettleLaws.{own-same, own-one}
use Rattle.lasp_store.proofs.seated.SeatedJobs.finish.Goals as goal

pub returns-clause-own_err : goal.returns-clause-own_err
returns-clause-own_err g c =
    let new = c.finish-finished.new.h in
    subst (λ (s : Knows × ℕ). OnErr c.finish-finished.result (made_by s.0.number new.seen ≡ made_by s.0.number s.0.seen)) c.self.view_is
    (on-err c.finish-finished.result
    (own-same c.self.inside.hand new (record { own = c.known.ensures.own; allowed = c.known.ensures.allowed }) (record { own = c.known-2.ensures.own; allowed = c.known-2.ensures.allowed }))
    c.finish-finished.ensures.err)

pub returns-clause-own_ok : goal.returns-clause-own_ok
returns-clause-own_ok g c =
    let new = c.finish-finished.new.h in
    let e = entry c.self.inside.hand.number (Bind c.args.job.var c.args.job.n) in
    subst (λ (s : Knows × ℕ). OnOk c.finish-finished.result (made_by s.0.number new.seen ≡ made_by s.0.number s.0.seen ++ entry s.0.number (Bind c.args.job.var c.args.job.n) ∷ [])) c.self.view_is
    (on-ok c.finish-finished.result
    (own-one c.self.inside.hand new e (record { own = c.known.ensures.own; allowed = c.known.ensures.allowed }) (record { own = c.known-2.ensures.own; allowed = c.known-2.ensures.allowed }))
    c.finish-finished.ensures.ok)
