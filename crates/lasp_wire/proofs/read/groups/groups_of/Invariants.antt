use Rattle.std.proofs.Common.{◌≡◌, ◌-◌, ◌≤◌, None, length}
use Rattle.model_wire.specs.Reader.{list_at, made}
use Rattle.model_wire.specs.Message.{group_at, after_group, rows_of}
use Rattle.lasp_wire.specs.Read.{before_of}
use Rattle.lasp_wire.proofs.GroupLoop.{with_rows}
use Rattle.lasp_wire.proofs.read.groups.groups_of.Given as goal

abbrev pub invariant-loop : goal.invariant-loop
invariant-loop l = (with_rows l.rows.items (list_at (group_at l.nodes) after_group (l.count - l.counter) (before_of l.rows.items) l.rest) ≡ made rows_of (list_at (group_at l.nodes) after_group l.count (None, 0)) l.bytes) × (length l.rows.items ≤ 65536)
