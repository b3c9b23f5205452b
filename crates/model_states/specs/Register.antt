-- The greatest number so far, or none yet.
use Rattle.std.specs.Prelude.{ℕ, ℤ, ◌≤ℤ◌, Option, None, Some, Bool, true, false, int_le, if◌then◌else◌, FitsSigned}
use Rattle.std.specs.Int.{int_max}
use mir.Syntax.{w64}

-- the later of two states: none yet stands below each number
abbrev pub later : Option ℤ → Option ℤ → Option ℤ
later None t = t
later (Some m) None = Some m
later (Some m) (Some n) = Some (int_max m n)

-- the order
abbrev pub IsNotLater : Option ℤ → Option ℤ → Type 0
IsNotLater None t = Unit {0}
IsNotLater (Some m) None = ⊥
IsNotLater (Some m) (Some n) = m ≤ℤ n

-- the order as a test
abbrev pub is_not_later : Option ℤ → Option ℤ → Bool
is_not_later None t = true
is_not_later (Some m) None = false
is_not_later (Some m) (Some n) = int_le m n

-- 1 where the state came to be at least the number, else 0
abbrev pub reaches : Option ℤ → ℤ → ℕ
reaches None n = 0
reaches (Some m) n = if int_le n m then 1 else 0

-- a number of 64 bits, or none yet
abbrev pub FitsTop : Option ℤ → Type 0
FitsTop None = Unit {0}
FitsTop (Some n) = FitsSigned w64 n
