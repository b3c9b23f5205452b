use Rattle.std.proofs.Common.{◌≡◌, ◌++◌, map, take}
use Rattle.model_wire.specs.Message.{row_of}
use Rattle.lasp_value.specs.Value.{val_of}
use Rattle.lasp_wire.specs.Read.{mark_of}
use Rattle.lasp_wire.proofs.read.groups.push_group.Given as goal

abbrev pub invariant-loop-mark : goal.invariant-loop-mark
invariant-loop-mark l = l.rows.items ≡ l.fn.rows.items ++ map (row_of (val_of l.group.value)) (map mark_of (take l.mark-index l.group.marks.items))
