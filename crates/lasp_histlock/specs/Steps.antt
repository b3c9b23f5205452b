-- What each step tells the seat that takes it.
use Rattle.std.specs.Prelude.{◌≡◌, ◌≢◌, ℕ, ◌<◌, ◌≤◌, true, false, List, [], ◌∷◌, All, length, Some, None}
use mathlib.Core.List.{IsPrefix}
use Rattle.atomic_table.specs.Table.{Step}
use Rattle.atomic_table.specs.Seated.{TableId}
use Rattle.lasp_histlock.specs.declared.view.View.{View}
use Rattle.lasp_histlock.specs.Names.{name_of}
use Rattle.lasp_histlock.specs.History.{entries_of, Allowed, among}
use Rattle.lasp_histlock.specs.Views.{landed, turned_to, missed, placed, looked, recalled, grown}
use Rattle.lasp_histlock.specs.Rule.{Slot, Mine}

-- some number from 1 on that was given out didn't come back
abbrev pub SomeOut : ℕ → List ℕ → Type 0
SomeOut made back = (k : ℕ) × (0 < k) × (k < made) × (among k back ≡ false)

module _ {E F : Type 0} (names : E → ℕ) (may : ℕ → E → Type 0) where
  -- what a pass knows of its own view at any time
  pub record Sound (v : View E F) : Type 0 where
    pub own : v.own ≡ entries_of names v.number v.seen
    pub allowed : All (Allowed names may) v.seen

  -- what the last joining brought together
  pub record Shown (v : View E F) : Type 0 where
    pub before : IsPrefix v.before v.seen
    pub beside : IsPrefix v.beside v.seen
    pub theirs : v.theirs ≡ entries_of names v.whose v.seen
    pub mark : v.mark ≡ v.frame

  -- what a load tells
  pub record Told (v : View E F) : Type 0 where
    pub sound : v.pass ≡ true → Sound v
    pub shown : v.noted ≡ true → Shown v

  -- the load of the count
  abbrev pub Looks : Step (Slot E F) → Mine E F → ℕ → Mine E F → Type 0
  Looks s m n after = (after ≡ (looked n m.0, m.1)) × Told m.0 × (length m.0.seen ≤ n) × (m.0.told ≤ n) × (m.0.carries ≡ true → length m.0.seen ≡ n)

  -- a load of the turn's word after a joining or a split
  abbrev pub Recalls : Step (Slot E F) → Mine E F → ℕ → Mine E F → Type 0
  Recalls s m n after = (after ≡ (recalled m.0, m.1)) × Told m.0

module _ {E F : Type 0} where
  -- the exchange of the turn's word from 0 to 1
  abbrev pub Opens : Step (Slot E F) → Mine E F → ℕ → Mine E F → Type 0
  Opens s m n after = (n ≡ 0 → (after ≡ (turned_to true m.0, m.1)) × (m.0.carries ≡ false)) × (n ≢ 0 → (after ≡ (missed m.0, m.1)) × (m.0.number ≡ 0 → SomeOut m.0.made m.0.back))

  -- the freeing store
  abbrev pub Frees : Step (Slot E F) → Mine E F → ℕ → Mine E F → Type 0
  Frees s m n after = after ≡ (turned_to false m.0, m.1)

  -- the slot is taken with the content in it
  abbrev pub LiftsFull : Step (Slot E F) → Mine E F → ℕ → Mine E F → Type 0
  LiftsFull s m n after = (content : TableId × List (View E F)) × (after ≡ (placed true true m.0, (0, Some content) ∷ m.1)) × (name_of content.0 ≡ m.0.lock)

  -- the slot is given back empty
  abbrev pub SetsBare : Step (Slot E F) → Mine E F → ℕ → Mine E F → Type 0
  SetsBare s m n after = after ≡ (placed true false m.0, [])

  -- the slot is taken empty
  abbrev pub LiftsBare : Step (Slot E F) → Mine E F → ℕ → Mine E F → Type 0
  LiftsBare s m n after = after ≡ (placed true true m.0, (0, None) ∷ m.1)

  -- the slot is given back with the content in it
  abbrev pub SetsFull : Step (Slot E F) → Mine E F → ℕ → Mine E F → Type 0
  SetsFull s m n after = after ≡ (placed false false m.0, [])

  -- the entries are counted
  abbrev pub Adds : List E → Step (Slot E F) → Mine E F → ℕ → Mine E F → Type 0
  Adds entries s m n after = after ≡ (grown entries m.0, m.1)

  -- the table's name is written into the first view
  abbrev pub Lands : TableId → Step (Slot E F) → Mine E F → ℕ → Mine E F → Type 0
  Lands table s m n after = after ≡ (landed table m.0, m.1)
