use Rattle.std.proofs.Common.{[]}
use Rattle.std.specs.Arc.{arc_value}
use Rattle.std.specs.Option.{option_map_or}
use Rattle.lasp_logset.proofs.GrownLaws.{begun-alike}
use Rattle.lasp_logset.proofs.grown.Grown.try_clone.Goals as goal

pub invariant_of-result : goal.invariant_of-result
invariant_of-result c =
    begun-alike (option_map_or arc_value c.self.inside.begin []) (option_map_or arc_value c.in_ok-begin.begin []) c.self.inside.past c.in_ok-past.past c.in_ok-begin.ensures c.in_ok-past.ensures c.self.invariant
