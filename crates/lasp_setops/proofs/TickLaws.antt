-- How many calls a pass over rows counts.
use Rattle.std.proofs.Common.{◌≡◌, ℕ, ◌+◌, ◌≤◌, List, ◌∷◌, length, ap, arith}
use Rattle.model_values.specs.Row.{Row}
use Rattle.lasp_fns.specs.Steps.{one_more}

pub tick-start : (n : ℕ) (rows x : List Row) → length rows ≡ length x → n + length rows ≤ n + length x
tick-start n rows x same = omega (arith, same)

pub tick-next : (n m bound : ℕ) (rows rest : List Row) (r : Row) → rows ≡ r ∷ rest → m ≡ one_more n → n + length rows ≤ bound → m + length rest ≤ bound
tick-next n m bound rows rest r at once h = let long = ap length at in omega (arith, long, once, h)

pub tick-stopped : (n m bound : ℕ) (rows rest : List Row) (r : Row) → rows ≡ r ∷ rest → m ≡ one_more n → n + length rows ≤ bound → m ≤ bound
tick-stopped n m bound rows rest r at once h = let long = ap length at in omega (arith, long, once, h)
