use Rattle.std.proofs.Common.{◌≡◌, ◌++◌, List, length}
use Rattle.std.specs.Vec.Iter.{into_iter_items}
use Rattle.lasp_live_run.specs.Run.{IsBack}
use Rattle.lasp_live_run.specs.declared.seat.Seat.{Seat}
use Rattle.lasp_live_run.proofs.run.back_of.Given as goal
use Rattle.lasp_store.specs.Turn.{Knows}

abbrev pub invariant-loop-seat : goal.invariant-loop-seat
invariant-loop-seat g l = (done : List (Seat Knows)) × (done ++ into_iter_items l.left ≡ l.fn.seats.items) × IsBack done l.back

abbrev pub decreases-loop-seat : goal.decreases-loop-seat
decreases-loop-seat g l = length (into_iter_items l.left)
