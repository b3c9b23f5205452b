use Rattle.std.proofs.Common.{sym, ◌∙◌}
use Rattle.std.specs.Arc.{arc_value}
use Rattle.lasp_logset.proofs.GrownLaws.{begun-changed}
use Rattle.lasp_logset.proofs.grown.Grown.with.Goals as goal

pub invariant_of-result : goal.invariant_of-result
invariant_of-result c = begun-changed c.deref.result.now (arc_value c.in_ok-begin.begin) c.args.rows c.in_ok-past.past c.in_ok-past.ensures (c.deref.ensures ∙ sym c.in_ok-begin.ensures)
