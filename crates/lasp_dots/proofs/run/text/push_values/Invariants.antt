use Rattle.std.proofs.Common.{◌≡◌, ◌≤◌, ◌++◌, length, drop}
use Rattle.std.specs.String.{string_bytes}
use Rattle.model_values.specs.Text.{shown_after, shown_values}
use Rattle.lasp_dots.proofs.run.text.push_values.Given as goal

abbrev pub invariant-loop-i : goal.invariant-loop-i
invariant-loop-i l = record {
  within : l.i ≤ length l.values;
  rest : string_bytes l.text ++ shown_after (drop l.i l.values) ≡ string_bytes l.fn.text ++ shown_values l.values;
}
