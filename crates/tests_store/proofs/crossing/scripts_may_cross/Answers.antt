use Rattle.lasp_crossing.proofs.Crossing.{crosses}
use Rattle.tests_store.proofs.crossing.scripts_may_cross.Goals as goal

pub may_cross-requires-send-T : goal.may_cross-requires-send-T
may_cross-requires-send-T c κs = search crosses depth 40 fits 4000

pub may_cross-requires-sync-T : goal.may_cross-requires-sync-T
may_cross-requires-sync-T c κs = search crosses depth 40 fits 4000
