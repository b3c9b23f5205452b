use Rattle.std.proofs.Common.{[], ◌++◌, refl, ◌∙◌}
use Rattle.std.specs.Arc.{arc_value}
use Rattle.std.specs.Option.{option_map_or}
use Rattle.lasp_logset.proofs.GrownLaws.{begun-within, begun-whole, rises-begun}
use Rattle.lasp_logset.proofs.grown.Grown.parts.Goals as goal

pub since-behind-requires : goal.since-behind-requires
since-behind-requires c = begun-within (option_map_or arc_value c.self.inside.begin []) c.self.inside.past c.begun.result c.begun.ensures c.self.invariant

pub returns-clause-whole : goal.returns-clause-whole
returns-clause-whole c =
    begun-whole (option_map_or arc_value c.self.inside.begin []) c.self.inside.past c.since-behind.result (option_map_or arc_value c.self.inside.begin [] ++ c.since-behind.result) c.begun.result c.begun.ensures c.since-behind.ensures c.self.invariant refl
    ∙ c.self.view_is

pub returns-clause-rises : goal.returns-clause-rises
returns-clause-rises c = rises-begun (option_map_or arc_value c.self.inside.begin []) c.self.inside.past c.since-behind.result c.begun.result c.begun.ensures c.since-behind.ensures c.self.invariant c.rises.ensures
