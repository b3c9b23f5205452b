-- Cases of threshold reads.
use Rattle.std.specs.Prelude.{pos, List, [], ◌∷◌, ◌++◌, codes}
use Rattle.model_values.specs.Value.{int}
use Rattle.model_functions.specs.Predicate.{Even}
use Rattle.model_graph.specs.Graph.{OrSet, Filter, Decl}
use Rattle.model_world.specs.Command.{Above, Count, Added, Removed, Command, Add, Remove, Inc, Mark, Send, Deliver, Read, Await, Script}
use Rattle.model_examples.specs.Case.{variable}

-- the set a, and e, its even numbers
abbrev pub even_graph : List Decl
even_graph = variable (codes "a") OrSet ∷ variable (codes "e") (Filter 0 0 (Even ∷ [])) ∷ []

-- both nodes are asked for a total of 5; node 0 counts 3, node 1 counts 4 and hears of node 0
abbrev pub pending_script : Script
pending_script = record { nodes = 2; commands = Read 0 0 (Count 5) ∷ Read 1 0 (Count 5) ∷ Inc 0 0 3 ∷ Send 0 ∷ Inc 1 0 4 ∷ Deliver 1 0 ∷ [] }

-- 3 are counted, and 4 are awaited
abbrev pub missed_script : Script
missed_script = record { nodes = 1; commands = Inc 0 0 3 ∷ Await 0 0 (Count 4) ∷ [] }

-- 3 are counted, and 3 are awaited
abbrev pub reached_script : Script
reached_script = record { nodes = 1; commands = Inc 0 0 3 ∷ Await 0 0 (Count 3) ∷ [] }

-- 2 is added and the set is marked; the reads are of 2 as added and as removed among the even numbers, and of more than the mark has
abbrev pub opened_commands : List Command
opened_commands = Add 0 0 (int (pos 2)) ∷ Mark 0 0 ∷ Read 0 1 (Added (int (pos 2) ∷ [])) ∷ Read 0 1 (Removed (int (pos 2) ∷ [])) ∷ Read 0 0 (Above 0) ∷ []

abbrev pub added_script : Script
added_script = record { nodes = 1; commands = opened_commands }

-- the same, and then 2 is removed
abbrev pub removed_script : Script
removed_script = record { nodes = 1; commands = opened_commands ++ Remove 0 0 (int (pos 2)) ∷ [] }
