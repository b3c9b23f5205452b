-- Files in memory, some of whose reads are set to fail.
use Rattle.std.specs.Prelude.{ℕ, List, Bool, ◌||◌, ◌==◌, not, is_some}
use Rattle.std.specs.List.{list_any}
use Rattle.lasp_edge.specs.Shelf.{NamedBytes, file_at}

-- the files, the reads that are set to fail, the number of reads so far and how many of them failed
pub record Drive : Type 0 where
  pub files : List NamedBytes
  pub failing : List ℕ
  pub calls : ℕ
  pub faults : ℕ

-- the read of this number is set to fail
abbrev pub is_set : List ℕ → ℕ → Bool
is_set failing call = list_any (λ c. c == call) failing

-- the next read fails: it is set to, or there is no file of this name
abbrev pub next_fails : Drive → List ℕ → Bool
next_fails drive name = is_set drive.failing drive.calls || not (is_some (file_at drive.files name))
