use Rattle.std.proofs.Common.{take}
use Rattle.model_sets.specs.Reads.{HaveSmallInts}
use Rattle.lasp_logset.proofs.orset.recall_all.Given as goal

abbrev pub invariant-loop-row : goal.invariant-loop-row
invariant-loop-row l = HaveSmallInts (take l.row-index l.rows)
