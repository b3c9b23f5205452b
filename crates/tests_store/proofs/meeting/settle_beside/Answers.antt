use Rattle.lasp_crossing.proofs.Crossing.{crosses}
use Rattle.tests_store.proofs.meeting.settle_beside.Goals as goal

pub join-is_settled-requires-send-F : goal.join-is_settled-requires-send-F
join-is_settled-requires-send-F g c κs within = search crosses depth 40 fits 4000

pub join-is_settled-requires-send-A : goal.join-is_settled-requires-send-A
join-is_settled-requires-send-A g c κs within = search crosses depth 40 fits 4000
