use Rattle.std.proofs.Common.{[]}
use Rattle.std.specs.Arc.{arc_value}
use Rattle.std.specs.Option.{option_map_or}
use Rattle.lasp_value.specs.Value.{val_of}
use Rattle.lasp_logset.proofs.BeginLaws.{buried-parts}
use Rattle.lasp_logset.proofs.grown.Grown.bury_delta.Goals as goal

pub returns : goal.returns
returns c =
    buried-parts (val_of c.args.value.now) (option_map_or arc_value c.parts-behind.result.0.now []) c.parts-behind.result.1 c.args.self.now c.in_ok-delta.delta c.bury_behind.new.delta c.parts-behind.ensures.whole c.in_ok-delta.ensures c.in_ok-bury_behind.ensures
