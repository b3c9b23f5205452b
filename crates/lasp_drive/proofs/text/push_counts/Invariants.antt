use Rattle.std.proofs.Common.{◌≡◌, ◌++◌, drop, map}
use Rattle.std.specs.Prelude.{string_bytes}
use Rattle.std.specs.Fmt.{decimal}
use Rattle.model_world.specs.Line.{line_rest}
use Rattle.lasp_drive.proofs.text.push_counts.Given as goal

abbrev pub invariant-loop-count : goal.invariant-loop-count
invariant-loop-count l = string_bytes l.text ++ line_rest (map decimal (drop l.count-index l.counts)) ≡ string_bytes l.fn.text ++ line_rest (map decimal l.counts)
