-- A program in whole: three nodes that show the advertisements under a contract, until they were shown often enough.
use Rattle.std.specs.Prelude.{pos, List, [], ◌∷◌, codes}
use Rattle.model_values.specs.Value.{int, text, pair}
use Rattle.model_functions.specs.Map.{First}
use Rattle.model_functions.specs.Predicate.{KeyMatch}
use Rattle.model_graph.specs.Graph.{OrSet, Counter, Union, Product, Map, Filter, Decl}
use Rattle.model_world.specs.Command.{Count, Add, Remove, Inc, Sync, Print, Await, Script}
use Rattle.model_examples.specs.Case.{variable}

-- two sets of advertisements, each a number with a text, the numbers under contract, how often advertisements were shown, and, by a union, a product, a filter and a map, those advertisements whose number is under contract
abbrev pub advertisement_graph : List Decl
advertisement_graph = variable (codes "ads1") OrSet ∷ variable (codes "ads2") OrSet ∷ variable (codes "contracts") OrSet ∷ variable (codes "hits") Counter ∷ variable (codes "ads") (Union 0 1) ∷ variable (codes "pairs") (Product 4 2) ∷ variable (codes "valid") (Filter 5 0 (KeyMatch ∷ [])) ∷ variable (codes "shown") (Map 6 0 (First ∷ [])) ∷ []

-- advertisements and contracts are added at different nodes; after 3 counts one advertisement is removed
abbrev pub advertisement_script : Script
advertisement_script = record { nodes = 3; commands = Add 0 0 (pair (int (pos 10)) (text (codes "red"))) ∷ Add 1 1 (pair (int (pos 11)) (text (codes "blue"))) ∷ Add 2 2 (int (pos 10)) ∷ Add 2 2 (int (pos 11)) ∷ Sync ∷ Print 0 7 ∷ Print 1 7 ∷ Print 2 7 ∷ Inc 1 3 2 ∷ Inc 2 3 1 ∷ Sync ∷ Await 0 3 (Count 3) ∷ Remove 0 0 (pair (int (pos 10)) (text (codes "red"))) ∷ Sync ∷ Print 0 7 ∷ Print 1 7 ∷ Print 2 7 ∷ Print 0 3 ∷ [] }
