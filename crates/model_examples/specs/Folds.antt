-- Cases of folds.
use Rattle.std.specs.Prelude.{pos, negsuc, List, [], ◌∷◌, codes}
use Rattle.model_values.specs.Value.{int}
use Rattle.model_functions.specs.Lift.{Itself}
use Rattle.model_graph.specs.Graph.{OrSet, Fold, Sum, Xor, Modulo, Decl}
use Rattle.model_world.specs.Command.{Add, Remove, Sync, Print, Script}
use Rattle.model_examples.specs.Case.{variable}

-- the set a, and the sum s of its numbers
abbrev pub sum_graph : List Decl
sum_graph = variable (codes "a") OrSet ∷ variable (codes "s") (Fold 0 Sum 0 Itself) ∷ []

-- the set a, and of its numbers the sum s, the xor x and the remainder r of the sum by 4
abbrev pub folds_graph : List Decl
folds_graph = variable (codes "a") OrSet ∷ variable (codes "s") (Fold 0 Sum 0 Itself) ∷ variable (codes "x") (Fold 0 Xor 0 Itself) ∷ variable (codes "r") (Fold 0 (Modulo 4) 0 Itself) ∷ []

-- both nodes add 7 and learn of each other; then node 0 removes it
abbrev pub sum_script : Script
sum_script = record { nodes = 2; commands = Add 0 0 (int (pos 7)) ∷ Add 1 0 (int (pos 7)) ∷ Sync ∷ Print 0 1 ∷ Remove 0 0 (int (pos 7)) ∷ Print 0 1 ∷ [] }

-- -1 and 5 are added
abbrev pub folds_script : Script
folds_script = record { nodes = 1; commands = Add 0 0 (int (negsuc 0)) ∷ Add 0 0 (int (pos 5)) ∷ Print 0 1 ∷ Print 0 2 ∷ Print 0 3 ∷ [] }
