use Rattle.lasp_store.proofs.TurnLaws.{rejoined-seated}
use Rattle.lasp_store.proofs.SettleLaws.{rejoined-graph, rejoined-peer}
use Rattle.lasp_store.proofs.store.Store.rejoin.Goals as goal

pub returns-clause-seated : goal.returns-clause-seated
returns-clause-seated c = rejoined-seated c.args.self.now c.args.f.now c.rejoin.new.p c.args.h c.rejoin.ensures.pass c.rejoin.ensures.frame

pub returns-clause-graph : goal.returns-clause-graph
returns-clause-graph c =
    rejoined-graph c.args.f.now c.rejoin.new.p c.args.h (record { own = c.known.ensures.own; allowed = c.known.ensures.allowed }) (record { own = c.known-2.ensures.own; allowed = c.known-2.ensures.allowed })
    c.requires.first c.rejoin.ensures.pass c.rejoin.ensures.seen.0

pub returns-clause-peer : goal.returns-clause-peer
returns-clause-peer c free hand-free =
    rejoined-peer c.args.self.now c.args.f.now c.rejoin.new.p c.args.h (record { own = c.known.ensures.own; allowed = c.known.ensures.allowed }) (record { own = c.known-2.ensures.own; allowed = c.known-2.ensures.allowed })
    c.requires.first c.rejoin.ensures.pass c.rejoin.ensures.seen.0
    (rejoined-seated c.args.self.now c.args.f.now c.rejoin.new.p c.args.h c.rejoin.ensures.pass c.rejoin.ensures.frame free hand-free)
