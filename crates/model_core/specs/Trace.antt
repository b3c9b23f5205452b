-- The lines of a journal: one for each entry, in order.
use Rattle.std.specs.Prelude.{ℕ, ◌+◌, ◌<◌, List, [], ◌∷◌, ◌++◌, codes, length}
use Rattle.std.specs.Fmt.{decimal}
use Rattle.model_graph.specs.Graph.{Decl, name_at}
use Rattle.model_journal.specs.Entry.{Act, Update, Deliver, Bind, Extend, Entry}
use Rattle.model_world.specs.Line.{line}

-- the replica's updates up to an act, where so many came before it
abbrev pub updates_with : ℕ → Act → ℕ
updates_with k (Update x op) = k + 1
updates_with k (Deliver j m) = k
updates_with k (Bind y n) = k
updates_with k (Extend d) = k

-- what was done: an update by its variable and its number among the replica's, counted from 1; a delivery by its message's number; a result by its variable and how many entries it was made of; a declaration by its name
abbrev pub act_words : List Decl → ℕ → Act → List (List ℕ)
act_words g k (Update x op) = codes "update" ∷ name_at g x ∷ decimal k ∷ []
act_words g k (Deliver j m) = codes "deliver" ∷ decimal j ∷ []
act_words g k (Bind y n) = codes "bind" ∷ name_at g y ∷ decimal n ∷ []
act_words g k (Extend d) = codes "declare" ∷ d.name ∷ []

-- `NODE PLACE CALLER ..`, of the entry with which so many updates stand
abbrev pub entry_line : List Decl → ℕ → ℕ → ℕ → Entry → List ℕ
entry_line g p i k e = line (decimal p ∷ decimal i ∷ decimal e.by ∷ act_words g k e.act)

-- the lines of entries from a place on, before which so many updates stand
unfoldable pub entry_lines : List Decl → ℕ → ℕ → ℕ → List Entry → List ℕ
entry_lines g p i k [] = []
entry_lines g p i k (e ∷ more) = entry_line g p i (updates_with k e.act) e ++ entry_lines g p (i + 1) (updates_with k e.act) more

-- the lines of node p's journal, with the names of this graph
abbrev pub journal_lines : List Decl → ℕ → List Entry → List ℕ
journal_lines g p entries = entry_lines g p 0 0 entries

-- the variables that an act names are declared
abbrev pub NamesDeclared : List Decl → Act → Type 0
NamesDeclared g (Update x op) = x < length g
NamesDeclared g (Deliver j m) = Unit {0}
NamesDeclared g (Bind y n) = y < length g
NamesDeclared g (Extend d) = Unit {0}
