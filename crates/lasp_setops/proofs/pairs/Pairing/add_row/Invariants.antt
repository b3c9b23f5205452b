use Rattle.std.proofs.Common.{◌≤◌, length, flat_map}
use Rattle.lasp_setops.specs.Prelude.{join, gives_from, row_limit}
use Rattle.lasp_setops.specs.Joined.{IsJoinedUpTo}
use Rattle.lasp_setops.proofs.pairs.Pairing.add_row.Given as goal

abbrev pub invariant-loop-partner : goal.invariant-loop-partner
invariant-loop-partner l = IsJoinedUpTo l.out (flat_map (gives_from l.self l.side l.row) l.partners) (join l.fn.out (flat_map (gives_from l.self l.side l.row) l.other)) × (length l.out ≤ row_limit)

abbrev pub decreases-loop-partner : goal.decreases-loop-partner
decreases-loop-partner l = length l.partners
