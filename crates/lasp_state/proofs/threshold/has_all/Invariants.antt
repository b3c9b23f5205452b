use Rattle.std.proofs.Common.{◌≡◌, drop}
use Rattle.std.specs.List.{list_all}
use Rattle.lasp_state.specs.State.{content_of}
use Rattle.lasp_state.specs.Threshold.{is_in}
use Rattle.lasp_state.proofs.threshold.has_all.Given as goal

-- what is left tells as much as all
abbrev pub invariant-loop-i : goal.invariant-loop-i
invariant-loop-i l = list_all (is_in l.dead (content_of l.s)) (drop l.i l.values) ≡ list_all (is_in l.dead (content_of l.s)) l.values
