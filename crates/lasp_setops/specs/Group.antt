-- What a fold may combine: a commutative group of numbers, each of a size that says how much room its combinations take.
use Rattle.std.specs.Prelude.{◌≡◌, ℕ, ◌+◌, ◌^◌, ◌≤◌, ℤ, pos, negsuc, Bool, IsTrue, FitsSigned}
use mir.Syntax.{w64}
use Rattle.model_sets.specs.Folds.{IsFoldGroup}

-- on members a commutative group; what is taken of a number of 64 bits is a member; the neutral element has size 0, what is taken at most 2^63, a combination at most both sizes, an inverse the same
pub record IsSizedGroup (member : ℤ → Bool) (combined : ℤ → ℤ → ℤ) (unit : ℤ) (undone taken : ℤ → ℤ) (size : ℤ → ℕ) : Type 0 where
  pub group : IsFoldGroup member combined unit undone
  pub lifts : (n : ℤ) → FitsSigned w64 n → IsTrue (member (taken n))
  pub size_unit : size unit ≡ 0
  pub size_taken : (n : ℤ) → FitsSigned w64 n → size (taken n) ≤ 2 ^ 63
  pub size_combined : (a b : ℤ) → size (combined a b) ≤ size a + size b
  pub size_undone : (a : ℤ) → size (undone a) ≡ size a

-- a number without its sign
abbrev pub magnitude : ℤ → ℕ
magnitude (pos n) = n
magnitude (negsuc n) = n + 1
