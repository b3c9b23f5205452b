use Rattle.std.proofs.Common.{length, ap, arith}
use Rattle.lasp_logset.proofs.RowListLaws.{counted}
use Rattle.lasp_logset.proofs.row_list.RowList.len.Goals as goal

pub returns-clause-exact : goal.returns-clause-exact
returns-clause-exact c = omega (arith, c.len.ensures, c.self.inside.rows.ok.0, counted c.self.inside.rows.items c.self.invariant, ap length c.self.view_is)

pub returns-clause-small : goal.returns-clause-small
returns-clause-small c = omega (arith, c.len.ensures, c.self.inside.rows.ok.0, c.self.inside.rows.ok.1, c.self.inside.rows.small)
