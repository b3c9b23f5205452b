use Rattle.lasp_crossing.proofs.Crossing.{crosses}
use Rattle.tests_store.proofs.together.beside.Goals as goal

pub join-requires-send-A : goal.join-requires-send-A
join-requires-send-A g c κs within = search crosses depth 40 fits 4000
