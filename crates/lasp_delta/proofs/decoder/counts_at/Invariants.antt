use Rattle.std.proofs.Common.{◌≡◌, ◌-◌, ◌≤◌, length, drop}
use Rattle.model_wire.specs.Reader.{list_at}
use Rattle.model_wire.specs.Message.{update_limit, limited_at, nothing_more}
use Rattle.lasp_wire.proofs.Loop.{with_front}
use Rattle.lasp_delta.proofs.decoder.counts_at.Given as goal

abbrev pub invariant-loop : goal.invariant-loop
invariant-loop l =
    (with_front l.counts (list_at (limited_at update_limit) nothing_more (l.nodes - l.counter) tt (drop l.behind l.bytes)) ≡ list_at (limited_at update_limit) nothing_more l.nodes tt (drop l.place l.bytes))
    × (l.behind ≤ length l.bytes)
    × (length l.counts ≡ l.counter)
