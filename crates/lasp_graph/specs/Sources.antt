-- The states of a graph's sources: by themselves in their order, and among those of all variables.
use Rattle.std.specs.Prelude.{pos, List, [], ◌∷◌, drop, if◌then◌else◌}
use Rattle.model_states.specs.Content.{least}
use Rattle.model_states.specs.Threshold.{set}
use Rattle.model_graph.specs.Graph.{Decl, is_source}
use Rattle.lasp_graph.specs.States.{Held, held_at}

-- a set without rows
abbrev pub nothing_held : Held
nothing_held = record { shape = set; content = least; number = pos 0 }

-- one state for each variable, from those of the sources in their order; a derived variable holds nothing
abbrev pub by_variable : List Decl → List Held → List Held
by_variable [] sources = []
by_variable (d ∷ g) sources = if is_source d.kind then held_at sources 0 ∷ by_variable g (drop 1 sources) else nothing_held ∷ by_variable g sources

-- the states of the sources in their order, from those of all variables
abbrev pub sources_of : List Decl → List Held → List Held
sources_of [] states = []
sources_of (d ∷ g) states = if is_source d.kind then held_at states 0 ∷ sources_of g (drop 1 states) else sources_of g (drop 1 states)
