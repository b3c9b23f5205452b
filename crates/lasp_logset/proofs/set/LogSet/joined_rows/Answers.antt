use Rattle.lasp_logset.proofs.KeptLaws.{joined-length}
use Rattle.lasp_logset.proofs.set.LogSet.joined_rows.Goals as goal

pub returns : goal.returns
returns c =
    joined-length c.parts.result.0.now.entries c.args.self.now c.parts-2.result.0.now.entries c.args.other.now c.rows.result c.count_new.result c.parts.ensures.kept c.parts-2.ensures.kept c.parts-2.ensures.apart c.rows.ensures.exact
    c.count_new.ensures.exact
