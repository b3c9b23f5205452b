-- A list as its pieces, and a test that parts a sorted list in two.
use Rattle.std.specs.Prelude.{◌≡◌, ℕ, ◌+◌, ◌<◌, ◌≤◌, ◌^◌, Bool, false, List, [], ◌∷◌, length, filter, take, get_or}
use Rattle.lasp_log.specs.Log.{joined}

module _ {T : Type 0} where
  -- how many items pass a test
  abbrev pub many : (T → Bool) → List T → ℕ
  many test s = length (filter test s)

  -- the items that pass stand in front: behind one that doesn't, none does
  abbrev pub IsParted : (T → Bool) → List T → Type 0
  IsParted test [] = Unit {0}
  IsParted test (x ∷ s) = IsParted test s × (test x ≡ false → many test s ≡ 0)

  -- no piece is empty
  abbrev pub AreFilled : List (List T) → Type 0
  AreFilled [] = Unit {0}
  AreFilled (c ∷ cs) = (0 < length c) × AreFilled cs

  -- how many items stand before a piece
  abbrev pub offset : List (List T) → ℕ → ℕ
  offset css i = length (joined (take i css))

  -- what is kept: how many items there are, in pieces of which none is empty
  pub record AreSound (css : List (List T)) (count : ℕ) : Type 0 where
    pub counted : count ≡ length (joined css)
    pub small : count ≤ 2 ^ 32
    pub filled : AreFilled css

  -- a place in a piece or right behind its items, before which n items stand; fewer stand before the piece, unless it is the first
  pub record IsPlace (css : List (List T)) (i at n : ℕ) : Type 0 where
    pub within : i < length css
    pub fits : at ≤ length (get_or css i [])
    pub sum : offset css i + at ≡ n
    pub low : 0 < i → offset css i < n
