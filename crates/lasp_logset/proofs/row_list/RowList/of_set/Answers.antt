use Rattle.std.proofs.Common.{sym, ap, subst, ◌∙◌}
use Rattle.model_sets.specs.Rows.{of_rows}
use Rattle.model_sets.specs.Rises.{AreApart}
use Rattle.lasp_logset.proofs.RowListLaws.{listed}
use Rattle.lasp_logset.proofs.row_list.RowList.of_set.Goals as goal

pub of-requires : goal.of-requires
of-requires c = subst AreApart (sym (listed c.loop-row.list.items c.loop-row.rows c.in_ok-rows.rows c.loop-row.invariant c.in_default.ensures.none)) c.in_ok-rows.ensures.apart

pub returns : goal.returns
returns c = c.of.ensures ∙ ap of_rows (listed c.loop-row.list.items c.loop-row.rows c.in_ok-rows.rows c.loop-row.invariant c.in_default.ensures.none) ∙ c.in_ok-rows.ensures.rows
