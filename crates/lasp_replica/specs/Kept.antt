-- A history as it is kept, with the rows of a growth that is prepared.
use Rattle.std.specs.Prelude.{◌≡◌, ℕ, ◌≤◌, ◌<◌, Bool, IsTrue, List, [], ◌∷◌, ◌++◌, length, refl}
use Rattle.std.specs.Coded.{Coded, code_by, coded×, coded_bool, coded_ℕ, coded_list}
use Rattle.model_values.specs.Row.{Row, coded_rows}
use Rattle.lasp_replica.specs.History.{Growth, History, AreSound}

-- what is seen of a history that is kept
pub record Kept : Type 0 where
  pub history : History
  -- the rows of the growth that is prepared
  pub pending : List Row
  -- whether memory is there for one growth by these rows
  pub prepared : Bool
  -- how many rows may take the place of these then
  pub room : ℕ

-- a growth at an entry, by which so many rows had changed the variable
abbrev pub growth : ℕ → ℕ → Growth
growth entry rows = record { entry = entry; rows = rows }

-- what is seen of a log, its growths, the rows of a growth that is prepared or not, and how many may take their place
abbrev pub kept : List Row → List Growth → List Row → Bool → ℕ → Kept
kept log growths pending prepared room = record { history = record { log = log; growths = growths }; pending = pending; prepared = prepared; room = room }

-- a growth as a tree of numbers
abbrev pub coded_growth : Coded Growth
coded_growth = code_by (ℕ × ℕ) (coded× coded_ℕ coded_ℕ) (λ g. (g.entry, g.rows)) (λ p. growth p.0 p.1) (λ _. refl)

-- a kept history as a tree of numbers
abbrev pub coded_kept : Coded Kept
coded_kept =
    code_by (List Row × (List Growth × (List Row × (Bool × ℕ)))) (coded× coded_rows (coded× (coded_list coded_growth) (coded× coded_rows (coded× coded_bool coded_ℕ))))
    (λ k. (k.history.log, (k.history.growths, (k.pending, (k.prepared, k.room))))) (λ p. kept p.0 p.1.0 p.1.1.0 p.1.1.1.0 p.1.1.1.1) (λ _. refl)

-- the first growth brought at least so many rows; before it there are none
abbrev pub CoversFirst : ℕ → List Growth → Type 0
CoversFirst rows [] = rows ≡ 0
CoversFirst rows (g ∷ growths) = rows ≤ g.rows

-- the history is sound, and begins with the rows that are kept as a set; only a first growth is prepared as a set; where a growth is prepared the log has room for its rows and for as many as may take their place, and the growths for one more
pub record IsKept (first log : List Row) (growths : List Growth) (pending_first : List Row) (prepared : Bool) (rows most rows_room entries entries_room : ℕ) : Type 0 where
  pub sound : AreSound (first ++ log) growths
  pub covered : CoversFirst (length first) growths
  pub first_alone : 0 < length growths → pending_first ≡ []
  pub rows_fit : IsTrue prepared → rows ≤ rows_room
  pub most_fit : IsTrue prepared → most ≤ rows_room
  pub entry_fits : IsTrue prepared → entries < entries_room
