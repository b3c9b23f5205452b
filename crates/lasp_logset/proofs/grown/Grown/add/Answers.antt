use Rattle.std.proofs.Common.{[], ◌∷◌}
use Rattle.std.specs.Arc.{arc_value}
use Rattle.std.specs.Option.{option_map_or}
use Rattle.lasp_logset.proofs.GrownLaws.{begun-more}
use Rattle.lasp_logset.proofs.grown.Grown.add.Goals as goal

pub invariant_of-self-2 : goal.invariant_of-self-2
invariant_of-self-2 c = begun-more (option_map_or arc_value c.self.inside.begin []) c.self.inside.past c.push.new.self (c.args.entry ∷ []) c.in_ok-push.ensures.ok c.self.invariant
