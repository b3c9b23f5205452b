use Rattle.std.proofs.Common.{◌∙◌, arith}
use Rattle.std.specs.String.{string_bytes}
use Rattle.lasp_value.specs.Value.{val_of}
use Rattle.lasp_dots.proofs.TextLaws.{values-next}
use Rattle.lasp_dots.proofs.run.text.push_values.Goals as goal

pub loop-i-preserved : goal.loop-i-preserved
unfolding lib.Utf8.encode
loop-i-preserved c = record {
  within = omega (arith, c.loop-i-test.true, c.len-i-end.ensures);
  rest = values-next (string_bytes c.loop-i.text) (string_bytes c.push-in-loop-i.new.self) (string_bytes c.print_into-in-loop-i.new.out) c.args.values.now c.loop-i.i (val_of c.at-in-loop-i.result.now) c.at-in-loop-i.ensures
      c.in_ok-push-2.ensures.bytes c.in_ok-print_into-2.ensures ∙ c.loop-i.invariant.rest;
}
