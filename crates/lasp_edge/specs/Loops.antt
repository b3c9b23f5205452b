-- What the loops over a reader and a writer did.
use Rattle.std.specs.Prelude.{◌≡◌, ℕ, ◌+◌, ◌≤◌, List, Result, Ok, Err, length, ◌++◌, Option, Bool, true, false}
use Rattle.std.specs.Io.KnownBytes.{Consumes, Appends}
use Rattle.std.specs.declared.vec.Vec.{Vec}
use Rattle.lasp_edge.specs.declared.error.Fetch.{Fetch}
use Rattle.lasp_edge.specs.declared.error.Fetch.TheVariants.{Failed, TooLong, Memory}

-- these bytes were taken from the reader where the answer is this: all of them are handed out, one
-- too many was taken, or fewer before a fault; where memory is short, no more than one too many
abbrev pub Took : {A : Type 0} → ℕ → List ℕ → Result (Vec ℕ A) Fetch → Type 0
Took limit taken (Ok bytes) = (bytes.items ≡ taken) × (length taken ≤ limit)
Took limit taken (Err TooLong) = length taken ≡ limit + 1
Took limit taken (Err Failed) = length taken ≤ limit
Took limit taken (Err Memory) = length taken ≤ limit + 1

-- the reader lost some first bytes, which the answer tells
abbrev pub TakesUpTo : {A : Type 0} → ℕ → Option (List ℕ) → Option (List ℕ) → Result (Vec ℕ A) Fetch → Type 0
TakesUpTo limit old new result = (taken : List ℕ) × Consumes old new taken × Took limit taken result

-- the writer grew by some first bytes of these
abbrev pub GrowsByPrefix : Option (List ℕ) → Option (List ℕ) → List ℕ → Type 0
GrowsByPrefix old new bytes = (part : List ℕ) × (rest : List ℕ) × (part ++ rest ≡ bytes) × Appends old new part

-- the answer is that the read failed
abbrev pub is_failed : {T : Type 0} → Result T Fetch → Bool
is_failed (Ok bytes) = false
is_failed (Err Failed) = true
is_failed (Err TooLong) = false
is_failed (Err Memory) = false
