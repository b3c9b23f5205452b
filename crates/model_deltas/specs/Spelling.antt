-- The bytes of a delta: those of a message with two lists of counts. Numbers stand with their highest byte first.
use Rattle.std.specs.Prelude.{ℕ, ◌++◌, List, [], ◌∷◌, length, flat_map, codes}
use Rattle.model_graph.specs.Spelling.{number, spelled_counts, spelled_source}
use Rattle.model_deltas.specs.Delta.{Delta}

-- `LASD` and the version, the number of nodes, the counts from which it goes on, its own counts, and the sources with their number
unfoldable pub spelled_delta : Delta → List ℕ
spelled_delta d = (codes "LASD" ++ 1 ∷ []) ++ number 1 (length d.from) ++ spelled_counts d.from ++ spelled_counts d.counts ++ number 1 (length d.sources) ++ flat_map spelled_source d.sources
