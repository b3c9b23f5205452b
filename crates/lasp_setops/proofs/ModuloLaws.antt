-- Two remainders have a small sum.
use Rattle.std.proofs.Common.{ℕ, ◌<◌, ◌≤◌, ◌^◌, ℤ, pos, negsuc, ◌+ℤ◌, IsTrue, FitsSigned, arith}
use Rattle.std.proofs.lemmas.Bool.Decides.{nat_tests}
use mir.Syntax.{w128}
use Rattle.model_graph.specs.Graph.{Modulo}
use Rattle.model_graph.specs.Fold.{is_member}

pub remainders-fit : (m : ℕ) (a b : ℤ) → m ≤ 2 ^ 32 → IsTrue (is_member (Modulo m) a) → IsTrue (is_member (Modulo m) b) → FitsSigned w128 (a +ℤ b)
remainders-fit m (pos a) (pos b) small p q = record { sfits = let low : a < m = grind (arith, nat_tests, p) in let low_b : b < m = grind (arith, nat_tests, q) in omega (arith, low, low_b, small) }
remainders-fit m (negsuc a) b small p q = cc
remainders-fit m (pos a) (negsuc b) small p q = cc
