-- A case of a graph that grows.
use Rattle.std.specs.Prelude.{pos, [], ◌∷◌, codes}
use Rattle.model_values.specs.Value.{int}
use Rattle.model_graph.specs.Graph.{OrSet}
use Rattle.model_world.specs.Command.{Add, Send, Deliver, Print, Declare, Script}
use Rattle.model_examples.specs.Case.{variable}

-- node 0 adds 5 and sends; then b is declared, node 1 adds 7 to it and takes the message
abbrev pub growth_script : Script
growth_script = record { nodes = 2; commands = Add 0 0 (int (pos 5)) ∷ Send 0 ∷ Declare (variable (codes "b") OrSet) ∷ Add 1 1 (int (pos 7)) ∷ Deliver 1 0 ∷ Print 1 0 ∷ Print 1 1 ∷ [] }
