use Rattle.std.proofs.Common.{◌≡◌, ◌-◌, ◌≤◌, length, drop}
use Rattle.model_wire.specs.Reader.{list_at}
use Rattle.model_deltas.specs.Reader.{later_count_at, next_replica}
use Rattle.lasp_wire.proofs.Loop.{with_front}
use Rattle.lasp_delta.proofs.decoder.later_counts_at.Given as goal

abbrev pub invariant-loop-q : goal.invariant-loop-q
invariant-loop-q l =
    (with_front l.counts (list_at (later_count_at l.from) next_replica (length l.from - l.q) l.q (drop l.behind l.bytes)) ≡ list_at (later_count_at l.from) next_replica (length l.from) 0 (drop l.place l.bytes))
    × (l.behind ≤ length l.bytes)
