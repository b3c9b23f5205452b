use Rattle.std.proofs.Common.{◌+◌, None, List, ap, ◌∙◌}
use Rattle.model_values.specs.Row.{Row}
use Rattle.lasp_wire.specs.Length.{rows_len}
use Rattle.lasp_wire.proofs.Lengths.{spelled_rows_len}
use Rattle.lasp_wire.proofs.length.rows.set_len.Goals as goal

pub loop-row-init : goal.loop-row-init
loop-row-init c = ap (λ (rows : List Row). 4 + rows_len None rows) c.in_ok-rows.ensures ∙ spelled_rows_len c.args.set.now
