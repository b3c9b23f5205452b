use Rattle.std.proofs.Common.{length, ap, ◌∙◌}
use Rattle.lasp_logset.proofs.RowListLaws.{counted}
use Rattle.lasp_logset.proofs.row_list.RowList.as_slice.Goals as goal

pub returns-clause-many : goal.returns-clause-many
returns-clause-many c = ap length c.as_slice.ensures.value ∙ counted c.self.inside.rows.items c.self.invariant ∙ ap length c.self.view_is
