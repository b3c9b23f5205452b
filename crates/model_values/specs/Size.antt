-- How large values and tokens are, and the limits.
use Rattle.std.specs.Prelude.{ℕ, length, ◌+◌, ◌*◌, ◌≤◌, FitsSigned}
use mir.Syntax.{w64}
use Rattle.model_values.specs.Value.{Val, int, text, pair}
use Rattle.model_values.specs.Token.{Tok, single, both}

-- How many numbers and texts stand in a value.
abbrev pub leaves : Val → ℕ
leaves (int n) = 1
leaves (text t) = 1
leaves (pair a b) = leaves a + leaves b

-- How many bytes all texts of a value have together.
abbrev pub text_bytes : Val → ℕ
text_bytes (int n) = 0
text_bytes (text t) = length t
text_bytes (pair a b) = text_bytes a + text_bytes b

-- Each number of a value fits 64 bits with a sign.
abbrev pub HasSmallInts : Val → Type 0
HasSmallInts (int n) = FitsSigned w64 n
HasSmallInts (text t) = Unit {0}
HasSmallInts (pair a b) = HasSmallInts a × HasSmallInts b

-- How many single tokens stand in a token.
abbrev pub width : Tok → ℕ
width (single q k) = 1
width (both t s) = width t + width s

-- A value as a variable of width w may hold it: a source value is of width 1, a pair of values of widths w and x is of width w + x.
pub record IsOfWidth (w : ℕ) (v : Val) : Type 0 where
  pub leaves : leaves v ≤ 8 * w
  pub bytes : text_bytes v ≤ 256 * w

-- A token as a variable of width w may hold it.
abbrev pub IsTokenOfWidth : ℕ → Tok → Type 0
IsTokenOfWidth w t = width t ≤ w

-- A value that may be handed to a stored function: of the greatest width that a variable may have, 16, with numbers of 64 bits.
pub record IsSized (v : Val) : Type 0 where
  pub leaves : leaves v ≤ 128
  pub bytes : text_bytes v ≤ 4096
  pub ints : HasSmallInts v
