use Rattle.std.proofs.Common.{◌≡◌, ◌+◌, drop}
use Rattle.lasp_value.specs.Value.{val_of}
use Rattle.lasp_wire.specs.Written.{run}
use Rattle.lasp_wire.proofs.write.rows.run.Given as goal

abbrev pub invariant-loop-row : goal.invariant-loop-row
invariant-loop-row l = (l.count ≡ l.row-index) × (l.row-index + run (val_of l.value) (drop l.row-index l.rows) ≡ run (val_of l.value) l.rows)
