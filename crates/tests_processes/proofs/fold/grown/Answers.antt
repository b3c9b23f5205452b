use Rattle.std.proofs.Common.{◌∙◌, sym, ap, arith, List}
use Rattle.model_values.specs.Row.{Row}
use Rattle.model_sets.specs.Rows.{join}
use Rattle.lasp_setops.proofs.LimitLaws.{width-join}
use Rattle.tests_processes.proofs.fold.grown.Goals as goal

pub returns-clause-limits : goal.returns-clause-limits
returns-clause-limits c = record {
  rows = omega (arith, c.rows.ensures.exact, c.if-rows-gt-MOST_ROWS.false);
  values = width-join c.args.before.now c.args.change.now c.join_in.new.self c.requires.before c.requires.change (ap (λ (s : List Row). join s c.args.change.now) (sym c.in_ok-after.ensures) ∙ sym c.in_ok-join_in.ensures.ok);
}
