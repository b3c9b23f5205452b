use Rattle.std.proofs.Common.{[]}
use Rattle.lasp_store.proofs.TurnLaws.{had_turn}
use Rattle.lasp_store.proofs.SettleLaws.{turn-settles}
use Rattle.lasp_store.proofs.store.Store.settle_count.Goals as goal

pub returns-clause-pass : goal.returns-clause-pass
returns-clause-pass g c =
    let old = c.args.f.now in
    let new = c.end_count-many.new.f in
    turn-settles old new [] (record { own = c.known.ensures.own; allowed = c.known.ensures.allowed }) (record { own = c.known-2.ensures.own; allowed = c.known-2.ensures.allowed }) c.requires.first c.requires.idle tt
    (had_turn c.args.self.now old c.begin-core.new.h new c.begin-core.result.value [] c.begin-core.ensures c.end_count-many.ensures.turn)
