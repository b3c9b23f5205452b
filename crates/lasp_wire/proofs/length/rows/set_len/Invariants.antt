use Rattle.std.proofs.Common.{◌≡◌, ◌+◌, length}
use Rattle.std.specs.Option.{option_map}
use Rattle.model_graph.specs.Spelling.{spelled_rows}
use Rattle.lasp_value.specs.Value.{val_of}
use Rattle.lasp_wire.specs.Length.{rows_len}
use Rattle.lasp_wire.proofs.length.rows.set_len.Given as goal

abbrev pub invariant-loop-row : goal.invariant-loop-row
invariant-loop-row l = l.len + rows_len (option_map (λ v. val_of v.now) l.before) l.rows ≡ length (spelled_rows l.set)

abbrev pub decreases-loop-row : goal.decreases-loop-row
decreases-loop-row l = length l.rows
