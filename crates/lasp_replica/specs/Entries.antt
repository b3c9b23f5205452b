-- Entries as plain data.
use Rattle.std.specs.Arc.{arc_value}
use Rattle.model_journal.specs.Entry as plain
use Rattle.lasp_state.specs.State.{op_of}
use Rattle.lasp_graph.specs.Decl.{decl_of}
use Rattle.lasp_replica.specs.declared.entry.Act.{Act}
use Rattle.lasp_replica.specs.declared.entry.Act.TheVariants.{Update, Deliver, Bind, Extend}
use Rattle.lasp_replica.specs.declared.entry.Entry.{Entry}

abbrev pub act_of : Act → plain.Act
act_of (Update x op) = plain.Update x (op_of op)
act_of (Deliver number m) = plain.Deliver number (arc_value m)
act_of (Bind y n) = plain.Bind y n
act_of (Extend d) = plain.Extend (decl_of d)

abbrev pub entry_of : Entry → plain.Entry
entry_of e = record { by = e.by; act = act_of e.what }
