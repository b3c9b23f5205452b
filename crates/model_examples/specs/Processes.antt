-- Cases of one node whose sets are followed through a process.
use Rattle.std.specs.Prelude.{pos, negsuc, List, [], ◌∷◌, codes}
use Rattle.model_values.specs.Value.{int, text}
use Rattle.model_functions.specs.Map.{Abs}
use Rattle.model_functions.specs.Map as map_op
use Rattle.model_graph.specs.Graph.{OrSet, Union, Product, Intersection, Map, Decl}
use Rattle.model_world.specs.Command.{Add, Remove, Print, Script}
use Rattle.model_examples.specs.Case.{variable}

-- the sets a and b, and their union u
abbrev pub union_graph : List Decl
union_graph = variable (codes "a") OrSet ∷ variable (codes "b") OrSet ∷ variable (codes "u") (Union 0 1) ∷ []

-- the set a, and m, its numbers without their signs
abbrev pub map_graph : List Decl
map_graph = variable (codes "a") OrSet ∷ variable (codes "m") (Map 0 0 (Abs ∷ [])) ∷ []

-- the set a, and m, its numbers plus 1
abbrev pub successor_graph : List Decl
successor_graph = variable (codes "a") OrSet ∷ variable (codes "m") (Map 0 0 (map_op.Add (pos 1) ∷ [])) ∷ []

-- the sets a and b, and their product p
abbrev pub product_graph : List Decl
product_graph = variable (codes "a") OrSet ∷ variable (codes "b") OrSet ∷ variable (codes "p") (Product 0 1) ∷ []

-- the sets a and b, and their intersection i
abbrev pub intersection_graph : List Decl
intersection_graph = variable (codes "a") OrSet ∷ variable (codes "b") OrSet ∷ variable (codes "i") (Intersection 0 1) ∷ []

-- 1 is added to a, 2 to b, and 1 is removed
abbrev pub union_script : Script
union_script = record { nodes = 1; commands = Add 0 0 (int (pos 1)) ∷ Add 0 1 (int (pos 2)) ∷ Remove 0 0 (int (pos 1)) ∷ Print 0 2 ∷ [] }

-- 1 and -1 are added, which the map makes one value, and are removed one after the other
abbrev pub map_script : Script
map_script = record { nodes = 1; commands = Add 0 0 (int (pos 1)) ∷ Add 0 0 (int (negsuc 0)) ∷ Print 0 1 ∷ Remove 0 0 (int (pos 1)) ∷ Print 0 1 ∷ Remove 0 0 (int (negsuc 0)) ∷ Print 0 1 ∷ [] }

-- the greatest number of 64 bits is added
abbrev pub successor_script : Script
successor_script = record { nodes = 1; commands = Add 0 0 (int (pos 9223372036854775807)) ∷ Print 0 1 ∷ [] }

-- 1 and 2 are added to a, a text to b, and 2 is removed
abbrev pub product_script : Script
product_script = record { nodes = 1; commands = Add 0 0 (int (pos 1)) ∷ Add 0 0 (int (pos 2)) ∷ Add 0 1 (text (codes "x")) ∷ Remove 0 0 (int (pos 2)) ∷ Print 0 2 ∷ [] }

-- 3 is added to both sides, removed from one, and added there again
abbrev pub intersection_script : Script
intersection_script = record { nodes = 1; commands = Add 0 0 (int (pos 3)) ∷ Add 0 1 (int (pos 3)) ∷ Remove 0 1 (int (pos 3)) ∷ Print 0 2 ∷ Add 0 1 (int (pos 3)) ∷ Print 0 2 ∷ [] }
