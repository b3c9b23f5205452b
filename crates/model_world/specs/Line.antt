-- The lines of a report: words separated by one space, with a line's end.
use Rattle.std.specs.Prelude.{ℕ, ℤ, List, [], ◌∷◌, ◌++◌, codes, map, sum, Option, Some, None, Bool, if◌then◌else◌}
use Rattle.std.specs.Fmt.{decimal, signed_decimal}
use Rattle.model_values.specs.Text.{shown_values}
use Rattle.model_sets.specs.Rows.{visible}
use Rattle.model_states.specs.Content.{Content}
use Rattle.model_graph.specs.Graph.{Kind, OrSet, GSet, Counter, MaxReg, Union, Product, Intersection, Map, Filter, Fold, Decl, kind_at, name_at}
use Rattle.model_graph.specs.Fold.{fold_rows}

-- words each after a space, and the line's end
abbrev pub line_rest : List (List ℕ) → List ℕ
line_rest [] = 10 ∷ []
line_rest (word ∷ words) = 32 ∷ (word ++ line_rest words)

abbrev pub line : List (List ℕ) → List ℕ
line [] = 10 ∷ []
line (word ∷ words) = word ++ line_rest words

-- a register's number
abbrev pub shown_top : Option ℤ → List ℕ
shown_top None = codes "null"
shown_top (Some n) = signed_decimal n

-- how a content of this kind is printed: the visible values or elements, the total, the number
abbrev pub shown_content : Kind → Content → List ℕ
shown_content OrSet s = shown_values (visible s.rows)
shown_content GSet s = shown_values s.values
shown_content Counter s = decimal (sum s.counts)
shown_content MaxReg s = shown_top s.top
shown_content (Union x y) s = shown_values (visible s.rows)
shown_content (Product x y) s = shown_values (visible s.rows)
shown_content (Intersection x y) s = shown_values (visible s.rows)
shown_content (Map x place ops) s = shown_values (visible s.rows)
shown_content (Filter x place ops) s = shown_values (visible s.rows)
shown_content (Fold x op place lift) s = signed_decimal (fold_rows op lift s.rows)

-- `NODE NAME VALUE`
abbrev pub print_line : List Decl → ℕ → ℕ → Content → List ℕ
print_line g p x s = line (decimal p ∷ name_at g x ∷ shown_content (kind_at g x) s ∷ [])

-- `known NODE COUNT COUNT ..`, the number of updates of each replica that the node knows
abbrev pub known_line : ℕ → List ℕ → List ℕ
known_line p counts = line (codes "known" ∷ decimal p ∷ map decimal counts)

-- `read NUMBER reached` or `read NUMBER pending`
abbrev pub read_line : ℕ → Bool → List ℕ
read_line k met = line (codes "read" ∷ decimal k ∷ (if met then codes "reached" else codes "pending") ∷ [])
