-- Cases of sources: an idle remove, marks, grow-only sets and registers.
use Rattle.std.specs.Prelude.{pos, negsuc, List, [], ◌∷◌, codes}
use Rattle.model_values.specs.Value.{int, text}
use Rattle.model_graph.specs.Graph.{GSet, MaxReg, Decl}
use Rattle.model_world.specs.Command.{Add, Remove, Insert, Max, Mark, Bind, Settle, Print, Script}
use Rattle.model_examples.specs.Case.{variable}

-- the grow-only set g and the register m
abbrev pub growing_graph : List Decl
growing_graph = variable (codes "g") GSet ∷ variable (codes "m") MaxReg ∷ []

-- a value is removed that is not there
abbrev pub absent_script : Script
absent_script = record { nodes = 1; commands = Remove 0 0 (int (pos 9)) ∷ Print 0 0 ∷ [] }

-- 5 is added and marked, and the mark is bound where it was made
abbrev pub bound_script : Script
bound_script = record { nodes = 1; commands = Add 0 0 (int (pos 5)) ∷ Mark 0 0 ∷ Bind 0 0 0 ∷ Settle ∷ Settle ∷ Print 0 0 ∷ [] }

-- 5 is added and marked at node 0, and the mark is bound at node 1
abbrev pub carried_script : Script
carried_script = record { nodes = 2; commands = Add 0 0 (int (pos 5)) ∷ Mark 0 0 ∷ Bind 1 0 0 ∷ Print 1 0 ∷ [] }

-- the register is given -5 and then -9, the set two texts
abbrev pub growing_script : Script
growing_script = record { nodes = 1; commands = Print 0 1 ∷ Max 0 1 (negsuc 4) ∷ Max 0 1 (negsuc 8) ∷ Insert 0 0 (text (codes "b")) ∷ Insert 0 0 (text (codes "a")) ∷ Print 0 1 ∷ Print 0 0 ∷ [] }
