-- Reads as they are told to have been woken.
use Rattle.std.specs.Prelude.{ℕ, List, map}
use Rattle.model_core.specs.Core.{Read}

-- the numbers of these reads, in order
abbrev pub numbers : List Read → List ℕ
numbers reads = map (λ r. r.number) reads
