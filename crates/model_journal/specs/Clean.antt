-- When a derived variable has taken in the present contents of its inputs.
use Rattle.std.specs.Prelude.{◌≡◌, ℕ, max, ◌⊎◌, if◌then◌else◌, ◌==◌, List, [], ◌∷◌, take}
use Rattle.model_states.specs.Content.{least}
use Rattle.model_graph.specs.Graph.{IsInput, kind_at}
use Rattle.model_journal.specs.Entry.{Bind, Entry, Frame}
use Rattle.model_journal.specs.Journal.{Journal, snapshot_at, journal, graph, val}

-- the number of entries at which variable x grew
abbrev pub version : Frame → List Entry → ℕ → ℕ
version X entries x = (journal X entries).now.versions x

-- the greatest version of x that a bind of y read; 0 where there is no bind of y
abbrev pub greatest_read : Journal → List (ℕ × ℕ) → ℕ → ℕ → ℕ
greatest_read j [] y x = 0
greatest_read j (b ∷ binds) y x = if b.0 == y then max ((snapshot_at j b.1).versions x) (greatest_read j binds y x) else greatest_read j binds y x

-- what y has applied of x after the entries
abbrev pub applied : Frame → List Entry → ℕ → ℕ → ℕ
applied X entries y x = greatest_read (journal X entries) (journal X entries).binds y x

-- y is clean: what it applied of each input is the input's version
abbrev pub IsClean : Frame → List Entry → ℕ → Type 0
IsClean X entries y = (x : ℕ) → IsInput (kind_at (graph X entries) y) x → applied X entries y x ≡ version X entries x

-- the greatest n of the binds of y: its base; 0, where every variable is least, if there is none
abbrev pub greatest_bound : List (ℕ × ℕ) → ℕ → ℕ
greatest_bound [] y = 0
greatest_bound (b ∷ binds) y = if b.0 == y then max b.1 (greatest_bound binds y) else greatest_bound binds y

-- the base of y after the entries
abbrev pub base : Frame → List Entry → ℕ → ℕ
base X entries y = greatest_bound (journal X entries).binds y

-- the entries have a bind of y that read the contents after the first n entries
abbrev pub HasBind : List Entry → ℕ → ℕ → Type 0
HasBind [] y n = ⊥
HasBind (e ∷ entries) y n = (e.act ≡ Bind y n) ⊎ HasBind entries y n

-- a bind of y read the inputs as they are
abbrev pub HasReadPresent : Frame → List Entry → ℕ → Type 0
HasReadPresent X entries y = (n : ℕ) × HasBind entries y n × ((x : ℕ) → IsInput (kind_at (graph X entries) y) x → val X (take n entries) x ≡ val X entries x)

-- every input of y is least
abbrev pub AreInputsLeast : Frame → List Entry → ℕ → Type 0
AreInputsLeast X entries y = (x : ℕ) → IsInput (kind_at (graph X entries) y) x → val X entries x ≡ least
