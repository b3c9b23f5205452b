-- What is said of bytes that were read or written, where they are told at all.
use Rattle.std.specs.Prelude.{◌≡◌, ℕ, List, ◌++◌, Option, None, Some, IfSome}

-- nothing is told
abbrev pub untold : Option (List ℕ)
untold = None

-- the bytes are those of the file, where its contents are told
abbrev pub Sees : Option (List ℕ) → List ℕ → Type 0
Sees told bytes = IfSome told (λ content. bytes ≡ content)

-- what was written grew by the bytes; where it isn't told, it still isn't
abbrev pub Appends : Option (List ℕ) → List ℕ → Option (List ℕ) → Type 0
Appends None bytes new = new ≡ None
Appends (Some old) bytes new = new ≡ Some (old ++ bytes)

-- what was written grew by some first bytes of these
abbrev pub AppendsPrefix : Option (List ℕ) → List ℕ → Option (List ℕ) → Type 0
AppendsPrefix old bytes new =
    (part : List ℕ) × (rest : List ℕ) × (part ++ rest ≡ bytes) × Appends old part new
