use Rattle.lasp_crossing.proofs.Crossing.{crosses}
use Rattle.tests_store.proofs.joined.core_away.Goals as goal

pub join-requires-send-F : goal.join-requires-send-F
join-requires-send-F g c κs within = search crosses depth 40 fits 4000

pub join-requires-send-A : goal.join-requires-send-A
join-requires-send-A g c κs within = search crosses depth 40 fits 4000
