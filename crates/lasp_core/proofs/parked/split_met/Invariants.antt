use Rattle.std.proofs.Common.{◌≡◌, ◌+◌, ◌-◌, ◌≤◌, ◌++◌, not, map, filter, take, drop, vec_len, vec_capacity}
use Rattle.std.specs.List.{AllByRecursion}
use Rattle.model_core.specs.Core.{is_met}
use Rattle.lasp_core.specs.Reads.{read_of}
use Rattle.lasp_replica.specs.Replica.{frame_of, entries_of}
use Rattle.lasp_core.specs.Core.{IsWatched}
use Rattle.lasp_core.specs.Lacking.{IsWaiting}
use Rattle.lasp_core.proofs.parked.split_met.Given as goal

abbrev pub invariant-loop-i : goal.invariant-loop-i
invariant-loop-i l = record {
  kept : map read_of (take l.i l.parked.items) ++ filter (λ r. not (is_met (frame_of l.replica) (entries_of l.replica) r)) (map read_of (drop l.i l.parked.items))
      ≡ filter (λ r. not (is_met (frame_of l.replica) (entries_of l.replica) r)) (map read_of l.initial.parked.items);
  moved : map read_of l.released.items ++ filter (is_met (frame_of l.replica) (entries_of l.replica)) (map read_of (drop l.i l.parked.items))
      ≡ filter (is_met (frame_of l.replica) (entries_of l.replica)) (map read_of l.initial.parked.items);
  watched : AllByRecursion (IsWatched l.replica l.n) (map read_of (drop l.i l.parked.items));
  waits : AllByRecursion (IsWaiting (frame_of l.replica) (entries_of l.replica)) l.parked.items;
  room : vec_len l.released + vec_len l.parked ≤ vec_capacity l.released;
}

abbrev pub decreases-loop-i : goal.decreases-loop-i
decreases-loop-i l = vec_len l.parked - l.i
