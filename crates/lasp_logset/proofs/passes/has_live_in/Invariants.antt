use Rattle.std.proofs.Common.{length}
use Rattle.lasp_value.specs.Value.{val_of}
use Rattle.lasp_logset.specs.Passes.{IsSought}
use Rattle.lasp_logset.proofs.passes.has_live_in.Given as goal

abbrev pub invariant-loop-entry : goal.invariant-loop-entry
invariant-loop-entry l = IsSought l.log.items l.left (val_of l.value)

abbrev pub decreases-loop-entry : goal.decreases-loop-entry
decreases-loop-entry l = length l.left
