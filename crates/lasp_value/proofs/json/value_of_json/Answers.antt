use Rattle.std.proofs.Common.{◌∙◌, sym}
use Rattle.serde_json.specs.View.{view}
use Rattle.model_values.specs.Json.{written_value, read_value}
use Rattle.lasp_value.proofs.Sizes.{read-big, read-refused, refused-is}
use Rattle.lasp_value.proofs.json.value_of_json.Goals as goal

pub returns-in-Ok-2 : goal.returns-in-Ok-2
unfolding read_value
returns-in-Ok-2 c = read-big c.in-Ok.size (written_value (view c.args.j.now)) (sym c.in-Ok.is ∙ c.measure.ensures) (sym c.if-is_small.ensures)

pub returns-in-Err : goal.returns-in-Err
unfolding read_value
returns-in-Err c =
    refused-is c.in-Err.why c.from.result (read_value (view c.args.j.now)) c.from.ensures
    (read-refused c.in-Err.why (written_value (view c.args.j.now)) (sym c.in-Err.is ∙ c.measure.ensures))
