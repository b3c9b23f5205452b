use Rattle.std.proofs.Common.{ℕ, [], ◌∷◌, refl, subst}
use Rattle.model_journal.specs.Entry.{Bind, entry}
use Rattle.lasp_store.specs.Turn.{HadTurn}
use Rattle.lasp_store.proofs.SettleLaws.{turn-settles, turn-bound}
use Rattle.lasp_store.proofs.store.Store.settle_finish.Goals as goal

pub returns-in-Ok-clause-pass : goal.returns-in-Ok-clause-pass
returns-in-Ok-clause-pass g c =
    turn-settles c.args.f.now c.finish.new.h (entry c.args.f.now.number (Bind c.args.job.var c.args.job.n) ∷ []) (record { own = c.known.ensures.own; allowed = c.known.ensures.allowed })
    (record { own = c.known-in-Ok.ensures.own; allowed = c.known-in-Ok.ensures.allowed }) c.requires.first c.requires.seated.idle (tt, tt) c.in-Ok.ensures.ok

pub returns-in-Ok-clause-ok : goal.returns-in-Ok-clause-ok
returns-in-Ok-clause-ok g c =
    turn-bound c.args.f.now c.finish.new.h (entry 0 (Bind c.args.job.var c.args.job.n)) (record { own = c.known.ensures.own; allowed = c.known.ensures.allowed })
    (record { own = c.known-in-Ok.ensures.own; allowed = c.known-in-Ok.ensures.allowed }) c.requires.first refl tt
    (subst (λ (n : ℕ). HadTurn (entry n (Bind c.args.job.var c.args.job.n) ∷ []) c.args.f.now c.finish.new.h) c.requires.first c.in-Ok.ensures.ok)

pub returns-clause-pass : goal.returns-clause-pass
returns-clause-pass g c =
    turn-settles c.args.f.now c.finish.new.h [] (record { own = c.known.ensures.own; allowed = c.known.ensures.allowed })
    (record { own = c.known-in-Err.ensures.own; allowed = c.known-in-Err.ensures.allowed }) c.requires.first c.requires.seated.idle tt c.in-Err.ensures.err
