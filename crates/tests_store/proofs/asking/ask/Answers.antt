use Rattle.tests_store.specs.Kept.{HasAsked}
use Rattle.tests_store.proofs.Passes.{asked-turn, asked-then}
use Rattle.tests_store.proofs.asking.ask.Goals as goal

pub returns-in-Ok-Some : goal.returns-in-Ok-Some
returns-in-Ok-Some g c =
    let taken : HasAsked c.args.store.now c.args.many c.args.h.now c.take.new.h = asked-turn c.args.store.now c.args.many c.args.h.now c.take.new.h c.reads_stay_open.ensures c.requires c.take.ensures.turn in
    asked-then c.args.store.now c.args.many c.args.h.now c.take.new.h c.give_back.new.h taken
    (asked-turn c.args.store.now c.args.many c.take.new.h c.give_back.new.h c.reads_stay_open.ensures taken.hand c.give_back.ensures)
