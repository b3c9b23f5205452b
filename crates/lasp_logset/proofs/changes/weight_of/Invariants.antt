use Rattle.std.proofs.Common.{take}
use Rattle.lasp_logset.specs.Weights.{IsBounded, rows_weight}
use Rattle.lasp_logset.proofs.changes.weight_of.Given as goal

abbrev pub invariant-loop-row : goal.invariant-loop-row
invariant-loop-row l = IsBounded (rows_weight (take l.row-index l.rows)) l.weight
