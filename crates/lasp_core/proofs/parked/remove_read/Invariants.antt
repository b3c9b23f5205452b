use Rattle.std.proofs.Common.{◌≡◌, ◌-◌, ◌++◌, not, map, filter, take, drop, vec_len}
use Rattle.std.specs.Prelude.{◌==◌}
use Rattle.lasp_core.specs.Reads.{read_of}
use Rattle.lasp_core.proofs.parked.remove_read.Given as goal

abbrev pub invariant-loop-i : goal.invariant-loop-i
invariant-loop-i l = record {
  reads : map read_of (take l.i l.reads.items) ++ filter (λ r. not (r.number == l.number)) (map read_of (drop l.i l.reads.items))
      ≡ filter (λ r. not (r.number == l.number)) (map read_of l.initial.reads.items);
  items : take l.i l.reads.items ++ filter (λ r. not (r.number == l.number)) (drop l.i l.reads.items) ≡ filter (λ r. not (r.number == l.number)) l.initial.reads.items;
}

abbrev pub decreases-loop-i : goal.decreases-loop-i
decreases-loop-i l = vec_len l.reads - l.i
