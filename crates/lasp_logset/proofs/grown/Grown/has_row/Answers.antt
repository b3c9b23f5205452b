use Rattle.std.proofs.Common.{[]}
use Rattle.std.specs.Arc.{arc_value}
use Rattle.std.specs.Option.{option_map_or}
use Rattle.lasp_value.specs.Value.{val_of}
use Rattle.lasp_logset.proofs.BeginLaws.{row-begun, row-behind}
use Rattle.lasp_logset.proofs.grown.Grown.has_row.Goals as goal

pub returns-then-begin_has_row : goal.returns-then-begin_has_row
returns-then-begin_has_row c =
    row-begun (val_of c.args.value.now) c.args.dead (option_map_or arc_value c.parts-behind.result.0.now []) c.parts-behind.result.1 c.args.self.now c.begin_has_row.result c.parts-behind.ensures.whole c.begin_has_row.ensures c.if-begin_has_row.true

pub returns : goal.returns
returns c =
    row-behind (val_of c.args.value.now) c.args.dead (option_map_or arc_value c.parts-behind.result.0.now []) c.parts-behind.result.1 c.args.self.now c.begin_has_row.result c.has_row_in.result c.parts-behind.ensures.whole c.begin_has_row.ensures c.if-begin_has_row.false
    c.has_row_in.ensures
