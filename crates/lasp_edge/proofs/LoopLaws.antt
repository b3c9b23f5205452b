-- What a step of the loops over a reader and a writer adds.
use Rattle.std.proofs.Common.{ℕ, ◌+◌, ◌-◌, List, Option, length, take, drop, take-append-drop}
use Rattle.std.specs.Io.KnownBytes.{Appends, Keeps}
use Rattle.std.proofs.KnownBytes.{Appends-trans, Appends-kept}
use Rattle.std.proofs.Math.Seq.{take-add}
use Rattle.std.proofs.lemmas.List.{take_rest}
use Rattle.lasp_edge.specs.Loops.{GrowsByPrefix}

-- what was written so far is a prefix
pub grows_by_taken : (a b : Option (List ℕ)) (bytes : List ℕ) (i : ℕ) → Appends a b (take i bytes) → GrowsByPrefix a b bytes
grows_by_taken a b bytes i h = (take i bytes, drop i bytes, take-append-drop i bytes, h)

-- a write that failed leaves the prefix
pub grows_by_kept : (a b c : Option (List ℕ)) (bytes : List ℕ) (i : ℕ) → Appends a b (take i bytes) → Keeps b c → GrowsByPrefix a c bytes
grows_by_kept a b c bytes i h kept = grows_by_taken a c bytes i (Appends-kept a b c (take i bytes) h kept)

-- a write of the rest took its first n bytes
pub appends_more : (a b c : Option (List ℕ)) (bytes : List ℕ) (i n : ℕ) → Appends a b (take i bytes)
    → Appends b c (take n (take (length bytes - i) (drop i bytes))) → Appends a c (take (i + n) bytes)
appends_more a b c bytes i n h more =
    rw take-add (Appends-trans a b c (take i bytes) (take n (drop i bytes)) h (rw take_rest at more))
