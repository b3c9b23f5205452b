-- Output in memory, some of whose writes are set to fail.
use Rattle.std.specs.Prelude.{ℕ, ◌-◌, List, Option, None, Some, Bool, ◌||◌, min, length, is_some, nat_lt}
use Rattle.std.specs.Map.{lookup}
use Rattle.std.specs.BTreeMap.{is_at}
use Rattle.std.specs.Ordering.{nat_cmp}

-- the bytes written, the most that there is room for, the writes that are set to fail with how many
-- bytes each still appends, the number of writes so far and how many of them failed
pub record Tape : Type 0 where
  pub bytes : List ℕ
  pub room : ℕ
  pub failing : List (ℕ × ℕ)
  pub calls : ℕ
  pub faults : ℕ

-- how many bytes the write of this number may append at most, where it is set to fail
abbrev pub set_after : Tape → ℕ → Option ℕ
set_after tape call = lookup (is_at (nat_cmp call)) tape.failing

-- how many bytes still fit
abbrev pub space : Tape → ℕ
space tape = tape.room - length tape.bytes

-- the next write of this many bytes fails: it is set to, or they don't fit
abbrev pub next_fails : Tape → ℕ → Bool
next_fails tape count = is_some (set_after tape tape.calls) || nat_lt (space tape) count

-- n, and no more than the bound where there is one
abbrev pub at_most : Option ℕ → ℕ → ℕ
at_most None n = n
at_most (Some bound) n = min n bound

-- of this many bytes the next write appends as many as fit, and no more than it is set to
abbrev pub taken_count : Tape → ℕ → ℕ
taken_count tape count = at_most (set_after tape tape.calls) (min count (space tape))
