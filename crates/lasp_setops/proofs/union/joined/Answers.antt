use Rattle.std.proofs.Common.{◌∙◌, ap, List}
use Rattle.model_values.specs.Row.{Row}
use Rattle.model_sets.specs.Rows.{join}
use Rattle.model_sets.proofs.RowLaws.{join-commutative}
use Rattle.lasp_setops.proofs.union.joined.Goals as goal

pub returns-then-rows : goal.returns-then-rows
returns-then-rows c =
    c.in_ok-join_in.ensures.ok ∙ ap (λ (s : List Row). join s c.args.x.now) c.in_ok-all.ensures ∙ join-commutative c.args.y.now c.args.x.now
