-- The summary of a run of the generated script: one line for each variable at node 0, with one number, and what each node knows.
use Rattle.std.specs.Prelude.{ℕ, ◌+◌, List, [], ◌∷◌, ◌++◌, codes, length}
use Rattle.std.specs.Fmt.{decimal}
use Rattle.model_sets.specs.Rows.{visible}
use Rattle.model_states.specs.Content.{Content}
use Rattle.model_graph.specs.Evaluation.{content_at}
use Rattle.model_graph.specs.Graph.{Kind, OrSet, GSet, Counter, MaxReg, Union, Product, Intersection, Map, Filter, Fold, Decl}
use Rattle.model_world.specs.Line.{line, shown_content}
use Rattle.model_world.specs.Report.{known_lines}
use Rattle.model_world.specs.World.{Run, peer_at, shown_at}

-- how many values of a set are visible, how many elements there are, the total, the number
abbrev pub number_of : Kind → Content → List ℕ
number_of OrSet s = decimal (length (visible s.rows))
number_of GSet s = decimal (length s.values)
number_of (Union x y) s = decimal (length (visible s.rows))
number_of (Product x y) s = decimal (length (visible s.rows))
number_of (Intersection x y) s = decimal (length (visible s.rows))
number_of (Map x place ops) s = decimal (length (visible s.rows))
number_of (Filter x place ops) s = decimal (length (visible s.rows))
number_of Counter s = shown_content Counter s
number_of MaxReg s = shown_content MaxReg s
number_of (Fold x op place lift) s = shown_content (Fold x op place lift) s

-- `NAME NUMBER` for each declaration, the first being variable x
abbrev pub number_lines : ℕ → List Decl → List Content → List ℕ
number_lines x [] shown = []
number_lines x (d ∷ g) shown = line (d.name ∷ number_of d.kind (content_at shown x) ∷ []) ++ number_lines (x + 1) g shown

-- `load SEED COUNT`
abbrev pub load_line : ℕ → ℕ → List ℕ
load_line seed count = line (codes "load" ∷ decimal seed ∷ decimal count ∷ [])

-- the summary of a run's last world
abbrev pub load_text : ℕ → ℕ → Run → List ℕ
load_text seed count run = load_line seed count ++ number_lines 0 run.graph (shown_at run.graph (peer_at run.peers 0)) ++ known_lines 0 run.peers
