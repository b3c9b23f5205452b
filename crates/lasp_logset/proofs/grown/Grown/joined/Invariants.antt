use Rattle.std.proofs.Common.{◌≡◌, length}
use Rattle.model_sets.specs.Rows.{of_rows, join}
use Rattle.lasp_logset.specs.Grown.{IsGrown}
use Rattle.lasp_logset.proofs.grown.Grown.joined.Given as goal

abbrev pub invariant-loop-entry : goal.invariant-loop-entry
invariant-loop-entry l = record {
  joined : join (of_rows l.all) l.left ≡ join (of_rows l.self) l.log.items;
  grown : IsGrown l.self l.all;
}

abbrev pub decreases-loop-entry : goal.decreases-loop-entry
decreases-loop-entry l = length l.left
