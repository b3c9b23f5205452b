-- What a contract says of a history: whose an entry is, and who may make it.
use Rattle.std.specs.Prelude.{◌≡◌, ℕ, Bool, false, ◌||◌, ◌==◌, ltb, if◌then◌else◌, List, [], ◌∷◌, All, filter, length, drop}

module _ {E : Type 0} (names : E → ℕ) where
  -- the entries that name n, in order
  abbrev pub entries_of : ℕ → List E → List E
  entries_of n entries = filter (λ e. names e == n) entries

  -- the caller with the number that an entry names may make the entry
  abbrev pub Allowed : (ℕ → E → Type 0) → E → Type 0
  Allowed may e = may (names e) e

  -- the entries are of the caller n, and n may make them
  abbrev pub Made : (ℕ → E → Type 0) → ℕ → List E → Type 0
  Made may n entries = All (λ e. (names e ≡ n) × may n e) entries

module _ {E : Type 0} where
  -- what the list has past an older one
  abbrev pub added : List E → List E → List E
  added older list = drop (length older) list

  abbrev pub longer : List E → List E → List E
  longer xs ys = if ltb (length xs) (length ys) then ys else xs

-- n is one of the numbers
abbrev pub among : ℕ → List ℕ → Bool
among n [] = false
among n (k ∷ ks) = (n == k) || among n ks
