-- Files in memory, by name.
use Rattle.std.specs.Prelude.{ℕ, List, Option}
use Rattle.std.specs.Map.{lookup}
use Rattle.std.specs.BTreeMap.{is_at}
use Rattle.std.specs.Cmp.Lexicographic.{slice_cmp}
use Rattle.std.specs.Ordering.{nat_cmp}

-- a name's bytes and the file's bytes
abbrev pub NamedBytes : Type 0
NamedBytes = List ℕ × List ℕ

-- the bytes of the file of this name, where there is one
abbrev pub file_at : List NamedBytes → List ℕ → Option (List ℕ)
file_at files name = lookup (is_at (slice_cmp nat_cmp name)) files
