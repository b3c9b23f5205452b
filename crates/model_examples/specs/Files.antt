-- Worked messages, scripts and files.
use Rattle.std.specs.Prelude.{ℕ, pos, false, List, [], ◌∷◌, ◌++◌, codes, replicate}
use Rattle.model_values.specs.Value.{int}
use Rattle.model_values.specs.Token.{single}
use Rattle.model_states.specs.Content.{of_set}
use Rattle.model_graph.specs.Graph.{OrSet, Counter, Union, Decl}
use Rattle.model_graph.specs.Message.{Message}
use Rattle.model_world.specs.Command.{Add, Script}
use Rattle.model_examples.specs.Case.{variable}

-- the set, with what may follow it
abbrev pub grown_graph : List Decl
grown_graph = variable (codes "a") OrSet ∷ variable (codes "u") (Union 0 0) ∷ variable (codes "c") Counter ∷ []

-- the set under another name, and another kind under its name
abbrev pub other_graph : List Decl
other_graph = variable (codes "b") OrSet ∷ []

abbrev pub counter_graph : List Decl
counter_graph = variable (codes "a") Counter ∷ []

-- what node 0 of two sends after it added 5, and node 1 after it added 6
abbrev pub first_message : Message
first_message = record { counts = 1 ∷ 0 ∷ []; sources = record { decl = variable (codes "a") OrSet; content = of_set (((int (pos 5), single 0 1), false) ∷ []) } ∷ [] }

abbrev pub second_message : Message
second_message = record { counts = 0 ∷ 1 ∷ []; sources = record { decl = variable (codes "a") OrSet; content = of_set (((int (pos 6), single 1 1), false) ∷ []) } ∷ [] }

-- two nodes, one of which adds 5
abbrev pub add_script : Script
add_script = record { nodes = 2; commands = Add 0 0 (int (pos 5)) ∷ [] }

-- the first message in version 1, but its last byte
abbrev pub cut_bytes : List ℕ
cut_bytes =
    codes "LASP" ++ 1 ∷ 2 ∷ replicate 7 0 ++ 1 ∷ replicate 8 0 ++ 1 ∷ 1 ∷ 97 ∷ 1 ∷ 0 ∷ 0 ∷ 0 ∷ 1 ∷ 0 ∷ replicate 7 0 ++ 5 ∷ 0 ∷ replicate 7 0 ++ 1 ∷ []

-- the first message in version 1
abbrev pub first_bytes : List ℕ
first_bytes = cut_bytes ++ 0 ∷ []
