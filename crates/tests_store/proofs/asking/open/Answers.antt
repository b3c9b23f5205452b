use Rattle.std.proofs.Common.{[]}
use Rattle.tests_store.proofs.Passes.{hand_turn}
use Rattle.tests_store.proofs.asking.open.Goals as goal

pub returns-in-Ok-clause-hand : goal.returns-in-Ok-clause-hand
returns-in-Ok-clause-hand g c = hand_turn c.args.store.now c.args.many [] c.is_suited.new.h c.open_read.new.h c.is_suited.ensures.hand c.open_read.ensures.turn

pub returns-in-Err-clause-hand : goal.returns-in-Err-clause-hand
returns-in-Err-clause-hand g c = hand_turn c.args.store.now c.args.many [] c.is_suited.new.h c.open_read.new.h c.is_suited.ensures.hand c.open_read.ensures.turn
