use Rattle.std.proofs.Common.{◌≡◌, ◌++◌, None, drop}
use Rattle.std.specs.Option.{option_map}
use Rattle.lasp_value.specs.Value.{val_of}
use Rattle.lasp_wire.specs.Written.{spelled_after}
use Rattle.lasp_wire.proofs.write.rows.put_rows.Given as goal

abbrev pub invariant-loop-i : goal.invariant-loop-i
invariant-loop-i l = l.out.items ++ spelled_after (option_map (λ v. val_of v.now) l.before) (drop l.i l.rows) ≡ l.fn.out.items ++ spelled_after None l.rows
