use Rattle.lasp_crossing.proofs.Crossing.{crosses}
use Rattle.lasp_top.proofs.threaded.free_aside.Goals as goal

pub spawn-requires-send-F : goal.spawn-requires-send-F
spawn-requires-send-F g c = search crosses depth 40 fits 4000
