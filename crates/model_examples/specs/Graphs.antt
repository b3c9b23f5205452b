-- The graphs of one source, which many cases use.
use Rattle.std.specs.Prelude.{List, [], ◌∷◌, codes}
use Rattle.model_graph.specs.Graph.{OrSet, Counter, Decl}
use Rattle.model_examples.specs.Case.{variable}

-- the set a
abbrev pub set_graph : List Decl
set_graph = variable (codes "a") OrSet ∷ []

-- the counter c
abbrev pub counter_graph : List Decl
counter_graph = variable (codes "c") Counter ∷ []
