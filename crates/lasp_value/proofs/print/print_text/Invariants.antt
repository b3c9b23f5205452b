use Rattle.std.proofs.Common.{◌≡◌, ◌++◌, ◌∷◌}
use Rattle.std.specs.Str.{encode_utf8_all}
use Rattle.std.specs.List.{flat_map}
use Rattle.std.specs.String.{string_bytes}
use Rattle.model_values.specs.Text.{escaped}
use Rattle.lasp_value.proofs.print.print_text.Given as goal

-- The quote, and then the characters so far, as they are printed.
abbrev pub invariant-loop-c : goal.invariant-loop-c
invariant-loop-c l = string_bytes l.out ≡ string_bytes l.fn.out ++ (34 ∷ flat_map escaped (encode_utf8_all l.yielded))
