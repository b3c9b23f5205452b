use Rattle.std.proofs.Common.{◌≡◌, map, take, drop, vec_len}
use Rattle.std.specs.List.{AllByRecursion}
use Rattle.lasp_replica.specs.Replica.{frame_of, entries_of}
use Rattle.lasp_core.specs.Reads.{read_of}
use Rattle.lasp_core.specs.Lacking.{IsWaiting, WasWaiting}
use Rattle.lasp_core.proofs.parked.seek_in_all.Given as goal

abbrev pub invariant-loop-i : goal.invariant-loop-i
invariant-loop-i l = record {
  same : map read_of l.parked.items ≡ map read_of l.initial.parked.items;
  many : vec_len l.parked ≡ vec_len l.initial.parked;
  sought : AllByRecursion (IsWaiting (frame_of l.replica) (entries_of l.replica)) (take l.i l.parked.items);
  left : AllByRecursion (WasWaiting l.replica l.n) (drop l.i l.parked.items);
}
