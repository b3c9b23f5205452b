-- What a graph's variables are, as a text: of each its name, its kind's word and its width.
use Rattle.std.specs.Prelude.{ℕ, List, [], ◌∷◌, ◌++◌, codes}
use Rattle.std.specs.Fmt.{decimal}
use Rattle.model_graph.specs.Graph.{Kind, OrSet, GSet, Counter, MaxReg, Union, Product, Intersection, Map, Filter, Fold, Decl}
use Rattle.model_graph.specs.Lawful.{width_of}
use Rattle.model_world.specs.Line.{line}

-- the word of a kind, as a graph has it
abbrev pub kind_word : Kind → List ℕ
kind_word OrSet = codes "orset"
kind_word GSet = codes "gset"
kind_word Counter = codes "counter"
kind_word MaxReg = codes "maxreg"
kind_word (Union x y) = codes "union"
kind_word (Product x y) = codes "product"
kind_word (Intersection x y) = codes "intersection"
kind_word (Map x place ops) = codes "map"
kind_word (Filter x place ops) = codes "filter"
kind_word (Fold x op place lift) = codes "fold"

-- `NAME KIND WIDTH`
abbrev pub check_line : Decl → ℕ → List ℕ
check_line d width = line (d.name ∷ kind_word d.kind ∷ decimal width ∷ [])

-- a line for each declaration after those of these widths
abbrev pub check_lines : List Decl → List ℕ → List ℕ
check_lines [] done = []
check_lines (d ∷ g) done = check_line d (width_of d.kind done) ++ check_lines g (done ++ width_of d.kind done ∷ [])

abbrev pub check_text : List Decl → List ℕ
check_text g = check_lines g []
