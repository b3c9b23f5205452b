use Rattle.lasp_threads.proofs.BackLaws.{rejoined-kept}
use Rattle.lasp_threads.proofs.hands.rejoin.Goals as goal

pub returns-clause-kept : goal.returns-clause-kept
returns-clause-kept c =
    rejoined-kept c.args.store.now c.args.hand c.args.feed.now c.rejoin.new.f c.requires.feed
    (record { own = c.known.ensures.own; allowed = c.known.ensures.allowed }) (record { own = c.known-2.ensures.own; allowed = c.known-2.ensures.allowed })
    c.rejoin.ensures.pass c.rejoin.ensures.seen.0 (c.rejoin.ensures.seated c.requires.feed.seated c.requires.hand)
