-- The operations of a stored map function. One that is not made for a value leaves the value as it is; none goes into the parts of a pair.
use Rattle.std.specs.Prelude.{ℕ, ℤ, pos, ◌+ℤ◌, ◌*ℤ◌, neg_ℤ, unsigned_abs, List, [], ◌∷◌, length, map}
use Rattle.std.specs.Int.{saturate_signed}
use Rattle.std.specs.Char.{to_ascii_lowercase}
use mir.Syntax.{w64}
use Rattle.model_values.specs.Value.{Val, int, text, pair}

pub data MapOp : Type 0 where
  -- a number plus this one, held between the least and the greatest of 64 bits, as every number below
  Add : ℤ → MapOp
  -- a number times this one
  Times : ℤ → MapOp
  -- a number with the other sign
  Neg : MapOp
  -- a number without its sign
  Abs : MapOp
  -- the first part of a pair
  First : MapOp
  -- the second part of a pair
  Second : MapOp
  -- a pair the other way round
  Swap : MapOp
  -- how many bytes a text has
  Length : MapOp
  -- a text with its letters `A` to `Z` made small
  Lower : MapOp

-- the number of 64 bits with a sign that is nearest
abbrev pub held_number : ℤ → Val
held_number n = int (saturate_signed w64 n)

-- what an operation makes of a number
abbrev pub mapped_number : MapOp → ℤ → Val
mapped_number (Add k) n = held_number (n +ℤ k)
mapped_number (Times k) n = held_number (n *ℤ k)
mapped_number Neg n = held_number (neg_ℤ n)
mapped_number Abs n = held_number (pos (unsigned_abs n))
mapped_number _ n = int n

-- what it makes of a text
abbrev pub mapped_text : MapOp → List ℕ → Val
mapped_text Length t = int (pos (length t))
mapped_text Lower t = text (map to_ascii_lowercase t)
mapped_text _ t = text t

-- what it makes of a pair
abbrev pub mapped_pair : MapOp → Val → Val → Val
mapped_pair First a b = a
mapped_pair Second a b = b
mapped_pair Swap a b = pair b a
mapped_pair _ a b = pair a b

abbrev pub mapped_once : MapOp → Val → Val
mapped_once op (int n) = mapped_number op n
mapped_once op (text t) = mapped_text op t
mapped_once op (pair a b) = mapped_pair op a b

-- the operations one after the other, the first one first
unfoldable pub mapped : List MapOp → Val → Val
mapped [] v = v
mapped (op ∷ ops) v = mapped ops (mapped_once op v)
