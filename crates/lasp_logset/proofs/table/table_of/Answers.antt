use Rattle.std.proofs.Common.{◌∙◌}
use Rattle.lasp_logset.proofs.WholeLaws.{table-none, table-more, table-done}
use Rattle.lasp_logset.proofs.table.table_of.Goals as goal

pub loop-entry-init : goal.loop-entry-init
loop-entry-init c = rw c.iter-left.ensures (table-none c.reserve.new.self.entries c.args.log.now.items (c.in_ok-reserve.ensures.entries ∙ c.new-rows.ensures.empty) c.requires.rises)

pub loop-entry-preserved : goal.loop-entry-preserved
loop-entry-preserved c = table-more c.loop-entry.rows.entries c.insert.new.self.entries c.loop-entry.left c.next.new.self c.args.log.now.items c.in-Some.entry.now c.in_ok-share.field-0 c.is_dead.result c.in-Some.ensures.some (c.in_ok-share.ensures ∙ c.name.ensures) c.is_dead.ensures c.requires.ints c.in_ok-insert.ensures.entries c.loop-entry.invariant

pub returns : goal.returns
returns c = table-done c.loop-entry.rows.entries c.loop-entry.left c.args.log.now.items c.in_default.ensures.none c.loop-entry.invariant
