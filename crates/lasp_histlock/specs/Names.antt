-- The name of a table as plain data, and back.
use Rattle.atomic_table.specs.Seated.{TableId}
use Rattle.lasp_histlock.specs.declared.view.TableName.{TableName}

abbrev pub name_of : TableId → TableName
name_of t = record { words = t.words; slots = t.slots; views_name = t.views_name; atom = t.atom; block = t.block; offset = t.offset; slot_names = t.slot_names }

abbrev pub id_of : TableName → TableId
id_of n = record { words = n.words; slots = n.slots; views_name = n.views_name; atom = n.atom; block = n.block; offset = n.offset; slot_names = n.slot_names }

-- which table a lock is
abbrev pub LockId : Type 0
LockId = TableId
