use Rattle.std.proofs.Common.{◌≤◌, length, flat_map}
use Rattle.lasp_setops.specs.Prelude.{join, gives_from, pair_set_from, row_limit}
use Rattle.lasp_setops.specs.Joined.{IsJoinedUpTo}
use Rattle.lasp_setops.proofs.pairs.Pairing.add.Given as goal

abbrev pub invariant-loop-row : goal.invariant-loop-row
invariant-loop-row l = IsJoinedUpTo l.out (flat_map (λ r. flat_map (gives_from l.self l.side r) l.other) l.rows) (join l.fn.out (pair_set_from l.self l.side l.set l.other)) × (length l.out ≤ row_limit)

abbrev pub decreases-loop-row : goal.decreases-loop-row
decreases-loop-row l = length l.rows
