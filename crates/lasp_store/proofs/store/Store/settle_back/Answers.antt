use Rattle.std.proofs.Common.{[]}
use Rattle.lasp_store.proofs.SettleLaws.{turn-settles}
use Rattle.lasp_store.proofs.store.Store.settle_back.Goals as goal

pub returns-clause-pass : goal.returns-clause-pass
returns-clause-pass g c =
    turn-settles c.args.f.now c.give_back.new.h [] (record { own = c.known.ensures.own; allowed = c.known.ensures.allowed }) (record { own = c.known-2.ensures.own; allowed = c.known-2.ensures.allowed }) c.requires.first c.requires.seated.idle tt c.give_back.ensures
