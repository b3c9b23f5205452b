-- How large values are at least.
use Rattle.std.proofs.Common.{◌≤◌, arith}
use Rattle.model_values.specs.Value.{Val, int, text, pair}
use Rattle.model_values.specs.Size.{leaves}

pub leaves-some : (v : Val) → 1 ≤ leaves v
leaves-some (int n) = omega arith
leaves-some (text t) = omega arith
leaves-some (pair a b) = omega (arith, leaves-some a)
