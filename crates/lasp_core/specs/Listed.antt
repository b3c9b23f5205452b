-- Lists of entries that go on, as those see them who ask a replica for jobs.
use Rattle.std.specs.Prelude.{◌≡◌, ℕ, ◌<◌, ◌≤◌, List, [], ◌∷◌, ◌++◌, Option, Some, None}
use Rattle.model_graph.specs.Lawful.{IsDerived}
use Rattle.model_journal.specs.Entry.{Entry, Frame}
use Rattle.model_journal.specs.Journal.{graph}
use Rattle.model_journal.specs.Clean.{IsClean}

-- the list goes on: it has the old entries, and further ones behind them
abbrev pub GoesOn : List Entry → List Entry → Type 0
GoesOn old new = (more : List Entry) × (new ≡ old ++ more)

-- the list goes on, and this entry is its last
abbrev pub EndsWith : Entry → List Entry → List Entry → Type 0
EndsWith e old new = (more : List Entry) × (new ≡ old ++ (more ++ e ∷ []))

-- a count that is told stays told and doesn't fall
abbrev pub IsLater : Option ℕ → Option ℕ → Type 0
IsLater None new = new ≡ None
IsLater (Some n) new = (m : ℕ) × (new ≡ Some m) × (n ≤ m)

-- every derived variable has taken in its inputs as they are
abbrev pub AreClean : Frame → List Entry → Type 0
AreClean X entries = (y : ℕ) → IsDerived (graph X entries) y → IsClean X entries y

-- where looks are counted, there was one more, and all entries that were told of are in the list
abbrev pub HasLooked : Option ℕ → Option ℕ → Option ℕ → ℕ → Type 0
HasLooked None new told length = Unit {0}
HasLooked (Some n) new told length = (m : ℕ) × (new ≡ Some m) × (n < m) × (told ≡ Some length)
