-- The bytes of a message in either version. They differ in the rows of a set.
use Rattle.std.specs.Prelude.{ℕ, ◌++◌, ◌==◌, List, [], ◌∷◌, length, flat_map, if◌then◌else◌, codes}
use Rattle.model_values.specs.Row.{Row}
use Rattle.model_states.specs.Content.{Content}
use Rattle.model_graph.specs.Graph.{Kind, OrSet}
use Rattle.model_graph.specs.Message.{Sent, Message}
use Rattle.model_graph.specs.Spelling.{number, truth, spelled_value, spelled_token, spelled_rows, spelled_content}

-- a row with its value
abbrev pub spelled_row : Row → List ℕ
spelled_row r = spelled_value r.0.0 ++ (spelled_token r.0.1 ++ truth r.1)

-- the rows of a set, each with its value
abbrev pub spelled_single_rows : List Row → List ℕ
spelled_single_rows rows = number 4 (length rows) ++ flat_map spelled_row rows

abbrev pub spelled_rows_in : ℕ → List Row → List ℕ
spelled_rows_in version rows = if version == 1 then spelled_single_rows rows else spelled_rows rows

-- the kind of a source and what it holds
abbrev pub spelled_content_in : ℕ → Kind → Content → List ℕ
spelled_content_in version OrSet s = 1 ∷ spelled_rows_in version s.rows
spelled_content_in version k s = spelled_content k s

abbrev pub spelled_source_in : ℕ → Sent → List ℕ
spelled_source_in version s = number 1 (length s.decl.name) ++ s.decl.name ++ spelled_content_in version s.decl.kind s.content

-- a message: `LASP` and the version, the counts with their number, the sources with their number
unfoldable pub spelled_in : ℕ → Message → List ℕ
spelled_in version m = (codes "LASP" ++ version ∷ []) ++ number 1 (length m.counts) ++ flat_map (number 8) m.counts ++ number 1 (length m.sources) ++ flat_map (spelled_source_in version) m.sources
