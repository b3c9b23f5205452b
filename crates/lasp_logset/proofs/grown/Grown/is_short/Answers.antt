use Rattle.std.proofs.Common.{[], arith}
use Rattle.std.specs.Arc.{arc_value}
use Rattle.std.specs.Option.{option_map_or}
use Rattle.lasp_logset.proofs.GrownLaws.{begun-shorter}
use Rattle.lasp_logset.proofs.grown.Grown.is_short.Goals as goal

pub overflow_sub-behind : goal.overflow_sub-behind
overflow_sub-behind c =
    let low = begun-shorter (option_map_or arc_value c.self.inside.begin []) c.self.inside.past c.begun.result c.version.result c.begun.ensures c.version.ensures.exact c.self.invariant in
    omega (arith, low)
