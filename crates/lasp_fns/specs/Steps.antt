-- A library whose calls are counted.
use Rattle.std.specs.Prelude.{ℕ, ◌+◌, ◌-◌, ◌^◌, min}
use Rattle.lasp_fns.specs.declared.library.Library.{Library}
use Rattle.lasp_fns.specs.declared.steps.StepLib.{StepLib}

abbrev pub library_of : {a b c d e f g h i : _} → StepLib a b c d e f g h i → Library a b c d e f g h i
library_of s = s.library.now

-- how many calls were counted
abbrev pub ticks_of : {a b c d e f g h i : _} → StepLib a b c d e f g h i → ℕ
ticks_of s = s.ticks

-- one call more, held at the greatest number of 64 bits
abbrev pub one_more : ℕ → ℕ
one_more n = min (n + 1) (2 ^ 64 - 1)
