-- The operation of a stored lift: the number that a value brings to a fold.
use Rattle.std.specs.Prelude.{ℤ, pos, length}
use Rattle.model_values.specs.Value.{Val, int, text, pair}

pub data LiftOp : Type 0 where
  -- 1 of every value
  One : LiftOp
  -- a number itself, else 0
  Itself : LiftOp
  -- how many bytes a text has, else 0
  Length : LiftOp
  -- the first part of a pair where that is a number, else 0
  First : LiftOp

-- a number itself, 0 of any other value
abbrev pub number_of : Val → ℤ
number_of (int n) = n
number_of (text t) = pos 0
number_of (pair a b) = pos 0

-- how many bytes a text has, 0 of any other value
abbrev pub length_of : Val → ℤ
length_of (int n) = pos 0
length_of (text t) = pos (length t)
length_of (pair a b) = pos 0

-- the number that is the first part of a pair, 0 of any other value
abbrev pub first_of : Val → ℤ
first_of (int n) = pos 0
first_of (text t) = pos 0
first_of (pair a b) = number_of a

abbrev pub lifted : LiftOp → Val → ℤ
lifted One v = pos 1
lifted Itself v = number_of v
lifted Length v = length_of v
lifted First v = first_of v
