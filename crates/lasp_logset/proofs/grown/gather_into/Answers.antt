use Rattle.std.proofs.Common.{List, ◌++◌, length, ap, sym, subst, ◌∙◌}
use Rattle.std.specs.Arc.{arc_value}
use Rattle.model_values.specs.Row.{Row}
use Rattle.model_sets.specs.Rises.{AreRises}
use Rattle.lasp_logset.proofs.GrownLaws.{begun-within, begun-whole, rises-begun}
use Rattle.lasp_logset.proofs.grown.gather_into.Goals as goal

pub since-behind-requires : goal.since-behind-requires
since-behind-requires c = begun-within (arc_value c.args.shared.now) c.args.past.now c.version.result (c.version.ensures.exact ∙ ap length c.in-Some.ensures.value) c.requires

pub put_behind-requires : goal.put_behind-requires
put_behind-requires c =
    subst (λ (s : List Row). AreRises s c.since-behind.result) (sym c.in-Some.ensures.value)
    (rises-begun (arc_value c.args.shared.now) c.args.past.now c.since-behind.result c.version.result (c.version.ensures.exact ∙ ap length c.in-Some.ensures.value) c.since-behind.ensures c.requires c.rises.ensures)

pub returns-in-Ok-clause-some : goal.returns-in-Ok-clause-some
returns-in-Ok-clause-some c = λ _.
    begun-whole (arc_value c.args.shared.now) c.args.past.now c.since-behind.result c.put_behind.new.self c.version.result (c.version.ensures.exact ∙ ap length c.in-Some.ensures.value) c.since-behind.ensures c.requires
    (c.in-Ok.ensures.ok ∙ ap (λ (s : List Row). s ++ c.since-behind.result) c.in-Some.ensures.value)
