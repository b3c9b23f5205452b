use Rattle.lasp_crossing.proofs.Crossing.{crosses}
use Rattle.tests_store.proofs.crossing.seated_hands_may_move.Goals as goal

pub may_move-requires-send-T : goal.may_move-requires-send-T
may_move-requires-send-T g c κs w = search crosses depth 40 fits 4000
