use Rattle.std.proofs.Common.{◌≡◌, ◌≤◌, ◌+◌, None, drop}
use Rattle.std.specs.Option.{option_map}
use Rattle.lasp_value.specs.Value.{val_of}
use Rattle.lasp_wire.specs.Written.{values_after}
use Rattle.lasp_wire.proofs.write.rows.values_in.Given as goal

abbrev pub invariant-loop-row : goal.invariant-loop-row
invariant-loop-row l = (l.count + values_after (option_map (λ v. val_of v.now) l.before) (drop l.row-index l.rows) ≡ values_after None l.rows) × (l.count ≤ l.row-index)
