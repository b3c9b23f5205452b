-- One variable's history: which rows changed it, oldest first, and at which entries of a journal it grew.
use Rattle.std.specs.Prelude.{◌≡◌, ℕ, ◌+◌, ◌≤◌, ◌<◌, max, if◌then◌else◌, nat_lt, IsTrue, List, [], ◌∷◌, ◌++◌, length, take}
use Rattle.model_values.specs.Row.{Row}
use Rattle.model_sets.specs.Rows.{of_rows}
use Rattle.model_sets.specs.Rises.{AreRises}
use Rattle.model_graph.specs.Graph.{is_set, kind_at}
use Rattle.model_journal.specs.Entry.{Entry, Frame}
use Rattle.model_journal.specs.Journal.{graph, val}
use Rattle.model_journal.specs.Clean.{version}

-- the entry at which a variable grew, by its place in the journal counted from 0, and how many rows had changed the variable by then
pub record Growth : Type 0 where
  pub entry : ℕ
  pub rows : ℕ

-- the rows that changed a variable, and its growths, each oldest first
pub record History : Type 0 where
  pub log : List Row
  pub growths : List Growth

-- nothing happened yet
abbrev pub no_history : History
no_history = record { log = []; growths = [] }

-- the history after a growth at the entry by these rows
abbrev pub grown : History → List Row → ℕ → History
grown h news entry = record { log = h.log ++ news; growths = h.growths ++ record { entry = entry; rows = length (h.log ++ news) } ∷ [] }

-- how many of the growths happened at the first n entries
abbrev pub version_before : List Growth → ℕ → ℕ
version_before [] n = 0
version_before (g ∷ growths) n = if nat_lt g.entry n then version_before growths n + 1 else version_before growths n

-- how many rows had changed the variable by the first n entries
abbrev pub rows_before : List Growth → ℕ → ℕ
rows_before [] n = 0
rows_before (g ∷ growths) n = if nat_lt g.entry n then max g.rows (rows_before growths n) else rows_before growths n

-- each growth happened at one of the first n entries
abbrev pub AreBelow : ℕ → List Growth → Type 0
AreBelow n [] = Unit {0}
AreBelow n (g ∷ growths) = (g.entry < n) × AreBelow n growths

-- the entries of the growths strictly ascend from the first one that is free, and their rows ascend from those that there were to all
abbrev pub AscendFrom : ℕ → ℕ → List Growth → ℕ → Type 0
AscendFrom free rows [] all = rows ≡ all
AscendFrom free rows (g ∷ growths) all = (free ≤ g.entry) × (rows ≤ g.rows) × AscendFrom (g.entry + 1) g.rows growths all

-- the growths happened one after the other, and the last of them brought the rows to all that there are
abbrev pub AreSound : List Row → List Growth → Type 0
AreSound log growths = AscendFrom 0 0 growths (length log)

-- what the history says of variable x of a journal
pub record IsHistory (X : Frame) (entries : List Entry) (x : ℕ) (h : History) : Type 0 where
  -- the variable's version after the first n entries is the number of growths at these
  pub versions : (n : ℕ) → n ≤ length entries → version X (take n entries) x ≡ version_before h.growths n
  pub below : AreBelow (length entries) h.growths
  -- a set's rows after the first n entries are the rows that had changed it by then
  pub rows : IsTrue (is_set (kind_at (graph X entries) x)) → (n : ℕ) → n ≤ length entries → (val X (take n entries) x).rows ≡ of_rows (take (rows_before h.growths n) h.log)
  pub rises : AreRises [] h.log
  pub counted : AreSound h.log h.growths
