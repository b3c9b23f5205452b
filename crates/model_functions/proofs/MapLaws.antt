-- Mapped values are no larger.
use Rattle.std.proofs.Common.{ℕ, ℤ, pos, negsuc, ◌+ℤ◌, ◌*ℤ◌, neg_ℤ, unsigned_abs, ◌≤◌, ◌<◌, ◌^◌, List, [], ◌∷◌, FitsSigned, arith}
use Rattle.std.specs.Int.{saturate_signed}
use Rattle.std.specs.Char.{to_ascii_lowercase}
use Rattle.std.proofs.lemmas.List.{length-map}
use mir.Syntax.{w64}
use Rattle.model_values.specs.Value.{Val, int, text, pair}
use Rattle.model_values.specs.Size.{leaves, text_bytes, HasSmallInts, IsSized, IsOfWidth}
use Rattle.model_functions.specs.Map.{MapOp, Add, Times, Neg, Abs, First, Second, Swap, Length, Lower, mapped, mapped_once}

mapped_once-leaves : (op : MapOp) (v : Val) → leaves (mapped_once op v) ≤ leaves v
mapped_once-leaves (Add k) (int n) = omega arith
mapped_once-leaves (Times k) (int n) = omega arith
mapped_once-leaves Neg (int n) = omega arith
mapped_once-leaves Abs (int n) = omega arith
mapped_once-leaves First (int n) = omega arith
mapped_once-leaves Second (int n) = omega arith
mapped_once-leaves Swap (int n) = omega arith
mapped_once-leaves Length (int n) = omega arith
mapped_once-leaves Lower (int n) = omega arith
mapped_once-leaves (Add k) (text t) = omega arith
mapped_once-leaves (Times k) (text t) = omega arith
mapped_once-leaves Neg (text t) = omega arith
mapped_once-leaves Abs (text t) = omega arith
mapped_once-leaves First (text t) = omega arith
mapped_once-leaves Second (text t) = omega arith
mapped_once-leaves Swap (text t) = omega arith
mapped_once-leaves Length (text t) = omega arith
mapped_once-leaves Lower (text t) = omega arith
mapped_once-leaves (Add k) (pair a b) = omega arith
mapped_once-leaves (Times k) (pair a b) = omega arith
mapped_once-leaves Neg (pair a b) = omega arith
mapped_once-leaves Abs (pair a b) = omega arith
mapped_once-leaves First (pair a b) = omega arith
mapped_once-leaves Second (pair a b) = omega arith
mapped_once-leaves Swap (pair a b) = omega arith
mapped_once-leaves Length (pair a b) = omega arith
mapped_once-leaves Lower (pair a b) = omega arith

mapped_once-bytes : (op : MapOp) (v : Val) → text_bytes (mapped_once op v) ≤ text_bytes v
mapped_once-bytes (Add k) (int n) = omega arith
mapped_once-bytes (Times k) (int n) = omega arith
mapped_once-bytes Neg (int n) = omega arith
mapped_once-bytes Abs (int n) = omega arith
mapped_once-bytes First (int n) = omega arith
mapped_once-bytes Second (int n) = omega arith
mapped_once-bytes Swap (int n) = omega arith
mapped_once-bytes Length (int n) = omega arith
mapped_once-bytes Lower (int n) = omega arith
mapped_once-bytes (Add k) (text t) = omega arith
mapped_once-bytes (Times k) (text t) = omega arith
mapped_once-bytes Neg (text t) = omega arith
mapped_once-bytes Abs (text t) = omega arith
mapped_once-bytes First (text t) = omega arith
mapped_once-bytes Second (text t) = omega arith
mapped_once-bytes Swap (text t) = omega arith
mapped_once-bytes Length (text t) = omega arith
mapped_once-bytes Lower (text t) = omega (arith, length-map t to_ascii_lowercase)
mapped_once-bytes (Add k) (pair a b) = omega arith
mapped_once-bytes (Times k) (pair a b) = omega arith
mapped_once-bytes Neg (pair a b) = omega arith
mapped_once-bytes Abs (pair a b) = omega arith
mapped_once-bytes First (pair a b) = omega arith
mapped_once-bytes Second (pair a b) = omega arith
mapped_once-bytes Swap (pair a b) = omega arith
mapped_once-bytes Length (pair a b) = omega arith
mapped_once-bytes Lower (pair a b) = omega arith

-- no operation adds a leaf, nor a byte of text
pub mapped-leaves : (ops : List MapOp) (v : Val) → leaves (mapped ops v) ≤ leaves v
unfolding mapped
mapped-leaves [] v = omega arith
mapped-leaves (op ∷ ops) v = omega (arith, mapped-leaves ops (mapped_once op v), mapped_once-leaves op v)

pub mapped-bytes : (ops : List MapOp) (v : Val) → text_bytes (mapped ops v) ≤ text_bytes v
unfolding mapped
mapped-bytes [] v = omega arith
mapped-bytes (op ∷ ops) v = omega (arith, mapped-bytes ops (mapped_once op v), mapped_once-bytes op v)

-- a map makes no value wider
pub mapped-width : (w : ℕ) (ops : List MapOp) (v : Val) → IsOfWidth w v → IsOfWidth w (mapped ops v)
mapped-width w ops v h = record { leaves = omega (arith, mapped-leaves ops v, h.leaves); bytes = omega (arith, mapped-bytes ops v, h.bytes) }

fits-held : (n : ℤ) → FitsSigned w64 (saturate_signed w64 n)
fits-held (pos n) = record { sfits = omega arith }
fits-held (negsuc n) = record { sfits = omega arith }

mapped_once-ints : (op : MapOp) (v : Val) → HasSmallInts v → text_bytes v < 2 ^ 63 → HasSmallInts (mapped_once op v)
mapped_once-ints (Add k) (int n) h few = fits-held (n +ℤ k)
mapped_once-ints (Times k) (int n) h few = fits-held (n *ℤ k)
mapped_once-ints Neg (int n) h few = fits-held (neg_ℤ n)
mapped_once-ints Abs (int n) h few = fits-held (pos (unsigned_abs n))
mapped_once-ints First (int n) h few = h
mapped_once-ints Second (int n) h few = h
mapped_once-ints Swap (int n) h few = h
mapped_once-ints Length (int n) h few = h
mapped_once-ints Lower (int n) h few = h
mapped_once-ints (Add k) (text t) h few = tt
mapped_once-ints (Times k) (text t) h few = tt
mapped_once-ints Neg (text t) h few = tt
mapped_once-ints Abs (text t) h few = tt
mapped_once-ints First (text t) h few = tt
mapped_once-ints Second (text t) h few = tt
mapped_once-ints Swap (text t) h few = tt
mapped_once-ints Length (text t) h few = record { sfits = omega (arith, few) }
mapped_once-ints Lower (text t) h few = tt
mapped_once-ints (Add k) (pair a b) h few = h
mapped_once-ints (Times k) (pair a b) h few = h
mapped_once-ints Neg (pair a b) h few = h
mapped_once-ints Abs (pair a b) h few = h
mapped_once-ints First (pair a b) h few = h.0
mapped_once-ints Second (pair a b) h few = h.1
mapped_once-ints Swap (pair a b) h few = (h.1, h.0)
mapped_once-ints Length (pair a b) h few = h
mapped_once-ints Lower (pair a b) h few = h

-- numbers stay of 64 bits, as long as the length of a text is such a number
pub mapped-ints : (ops : List MapOp) (v : Val) → HasSmallInts v → text_bytes v < 2 ^ 63 → HasSmallInts (mapped ops v)
unfolding mapped
mapped-ints [] v h few = h
mapped-ints (op ∷ ops) v h few = mapped-ints ops (mapped_once op v) (mapped_once-ints op v h few) (omega (arith, mapped_once-bytes op v, few))

-- so what may be handed to a stored function is made something that may be
pub mapped-sized : (ops : List MapOp) (v : Val) → IsSized v → IsSized (mapped ops v)
mapped-sized ops v h = record {
  leaves = omega (arith, mapped-leaves ops v, h.leaves);
  bytes = omega (arith, mapped-bytes ops v, h.bytes);
  ints = mapped-ints ops v h.ints (omega (arith, h.bytes));
}

pub ruleset maps = (mapped-leaves, mapped-bytes, mapped-ints, mapped-sized)
