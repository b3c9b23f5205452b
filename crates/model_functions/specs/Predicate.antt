-- The operations of a stored predicate.
use Rattle.std.specs.Prelude.{ℕ, ℤ, Bool, true, false, ◌&&◌, ◌==◌, nat_eq, int_lt, unsigned_abs, ◌%◌, List, [], ◌∷◌}
use Rattle.std.specs.List.{starts_with}
use Rattle.std.specs.Ordering.{eq_by_cmp}
use Rattle.model_values.specs.Value.{Val, int, text, pair, val_cmp}

pub data PredOp : Type 0 where
  -- a number that two divides
  Even : PredOp
  -- a number greater than this one
  Above : ℤ → PredOp
  -- a number less than this one
  Below : ℤ → PredOp
  -- a text
  IsText : PredOp
  -- a text that begins with these bytes
  StartsWith : List ℕ → PredOp
  -- a pair whose first part is itself a pair that begins with the second part
  KeyMatch : PredOp
  -- a pair of two equal values
  Same : PredOp

abbrev pub are_same : Val → Val → Bool
are_same v w = eq_by_cmp val_cmp v w

abbrev pub passes_number : PredOp → ℤ → Bool
passes_number Even n = unsigned_abs n % 2 == 0
passes_number (Above k) n = int_lt k n
passes_number (Below k) n = int_lt n k
passes_number _ n = false

abbrev pub passes_text : PredOp → List ℕ → Bool
passes_text IsText t = true
passes_text (StartsWith s) t = starts_with nat_eq t s
passes_text _ t = false

-- the value is a pair that begins with this one
abbrev pub begins_with : Val → Val → Bool
begins_with k (pair v w) = are_same k v
begins_with k (int n) = false
begins_with k (text t) = false

abbrev pub passes_pair : PredOp → Val → Val → Bool
passes_pair KeyMatch a b = begins_with b a
passes_pair Same a b = are_same a b
passes_pair _ a b = false

abbrev pub passes_once : PredOp → Val → Bool
passes_once op (int n) = passes_number op n
passes_once op (text t) = passes_text op t
passes_once op (pair a b) = passes_pair op a b

-- the value passes each of the operations
unfoldable pub passes : List PredOp → Val → Bool
passes [] v = true
passes (op ∷ ops) v = passes_once op v && passes ops v
