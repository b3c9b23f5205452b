use Rattle.std.proofs.Common.{◌≡◌, drop}
use Rattle.std.specs.List.{list_any}
use Rattle.model_sets.specs.Rows.{is_of}
use Rattle.lasp_value.specs.Value.{val_of}
use Rattle.lasp_core.proofs.news.has_any.Given as goal

abbrev pub invariant-loop-row : goal.invariant-loop-row
invariant-loop-row l = list_any (is_of (val_of l.value)) (drop l.row-index l.rows) ≡ list_any (is_of (val_of l.value)) l.rows
