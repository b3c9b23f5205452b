-- What is published for readers that never wait: versions, each later than the one before.
use Rattle.std.specs.Prelude.{ℕ, ◌≤◌, List, [], ◌∷◌, Option, Some, None}

-- the states after so many entries
pub record Version (S : Type 0) : Type 0 where
  pub n : ℕ
  pub states : List S

module _ {S : Type 0} where
  -- the last of these versions
  abbrev pub newest : List (Version S) → Option (Version S)
  newest [] = None
  newest (v ∷ []) = Some v
  newest (v ∷ w ∷ all) = newest (w ∷ all)

  -- the last of this version and of those behind it
  abbrev pub newest_from : Version S → List (Version S) → Version S
  newest_from v [] = v
  newest_from v (w ∷ all) = newest_from w all

  -- its states, or none where there is no version
  abbrev pub states_in : Option (Version S) → List S
  states_in None = []
  states_in (Some v) = v.states

  -- the number of its entries, or 0 where there is no version
  abbrev pub entries_in : Option (Version S) → ℕ
  entries_in None = 0
  entries_in (Some v) = v.n

module _ {S : Type 0} (AtMost : S → S → Type 0) where
  -- each state has its place in the second list, and is no more than what stands there
  abbrev pub AreAtMost : List S → List S → Type 0
  AreAtMost [] after = Unit {0}
  AreAtMost (s ∷ before) [] = ⊥
  AreAtMost (s ∷ before) (t ∷ after) = AtMost s t × AreAtMost before after

  -- no fewer entries, and no state is less
  pub record IsLater (v w : Version S) : Type 0 where
    pub n : v.n ≤ w.n
    pub states : AreAtMost v.states w.states

  -- it may be published behind that one, if there is one
  abbrev pub MayFollow : Option (Version S) → Version S → Type 0
  MayFollow None next = Unit {0}
  MayFollow (Some last) next = IsLater last next

  -- each of these is later than the one before it, and the first later than this version
  abbrev pub AreLater : Version S → List (Version S) → Type 0
  AreLater v [] = Unit {0}
  AreLater v (w ∷ all) = IsLater v w × AreLater w all

  -- each version is later than the one before it
  abbrev pub AreRising : List (Version S) → Type 0
  AreRising [] = Unit {0}
  AreRising (v ∷ all) = AreLater v all
