use Rattle.lasp_crossing.proofs.Crossing.{crosses}
use Rattle.tests_spies.proofs.Spies.{spies}
use Rattle.tests_spies.proofs.spying.beside.Goals as goal

pub join-requires-send-F : goal.join-requires-send-F
join-requires-send-F g c κs within = search (spies, crosses) depth 40 fits 4000

pub join-requires-send-A : goal.join-requires-send-A
join-requires-send-A g c κs within = search (spies, crosses) depth 40 fits 4000
