use Rattle.std.proofs.Common.{◌≡◌, ◌≤◌, ◌++◌, length, drop, map}
use Rattle.std.specs.Fmt.{decimal}
use Rattle.std.specs.String.{string_bytes}
use Rattle.model_world.specs.Line.{line_rest}
use Rattle.lasp_dots.proofs.run.text.push_counts.Given as goal

abbrev pub invariant-loop-q : goal.invariant-loop-q
invariant-loop-q l = record {
  within : l.q ≤ length l.set.counts;
  rest : string_bytes l.text ++ line_rest (map decimal (drop l.q l.set.counts)) ≡ string_bytes l.fn.text ++ line_rest (map decimal l.set.counts);
}
