use Rattle.lasp_threads.proofs.BackLaws.{split-kept}
use Rattle.lasp_threads.proofs.hands.split.Goals as goal

pub returns-clause-kept : goal.returns-clause-kept
returns-clause-kept c = split-kept c.args.store.now c.args.feed.now c.split_hand.new.f c.requires.feed c.split_hand.ensures.pass
