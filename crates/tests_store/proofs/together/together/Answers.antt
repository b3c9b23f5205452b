use Rattle.lasp_crossing.proofs.Crossing.{crosses}
use Rattle.tests_store.proofs.together.together.Goals as goal

pub beside_both-requires-send-W : goal.beside_both-requires-send-W
beside_both-requires-send-W g c κs within = search (c.type_bounds.sync-R, crosses) depth 40 fits 4000
