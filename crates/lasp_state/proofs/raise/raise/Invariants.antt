use Rattle.std.proofs.Common.{◌≡◌, ◌≢◌, ◌↔◌, IsTrue, max}
use Rattle.lasp_value.proofs.PlacesLaws.{joined_first}
use Rattle.lasp_state.proofs.raise.raise.Given as goal

-- The first counts are raised; whether one rose so far.
abbrev pub invariant-loop-i : goal.invariant-loop-i
invariant-loop-i l = (l.counts ≡ joined_first max l.i l.fn.counts l.others) × (IsTrue l.grew ↔ (l.counts ≢ l.fn.counts))
