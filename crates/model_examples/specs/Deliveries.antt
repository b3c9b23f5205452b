-- Cases of two nodes and the messages between them.
use Rattle.std.specs.Prelude.{pos, [], ◌∷◌, ◌++◌}
use Rattle.model_values.specs.Value.{int}
use Rattle.model_world.specs.Command.{Add, Remove, Inc, Send, Deliver, Sync, Print, Script}
use Rattle.model_examples.specs.Losses.{example_commands, example_repeats}

-- node 1 hears of 1 and removes it, while node 0 adds it again; then they learn of each other
abbrev pub crossing_script : Script
crossing_script = record { nodes = 2; commands = Add 0 0 (int (pos 1)) ∷ Send 0 ∷ Deliver 1 0 ∷ Remove 1 0 (int (pos 1)) ∷ Add 0 0 (int (pos 1)) ∷ Sync ∷ Print 0 0 ∷ Print 1 0 ∷ [] }

-- node 0 sends after each of two adds; node 1 takes the second message, the first, and the second again
abbrev pub late_script : Script
late_script = record { nodes = 2; commands = Add 0 0 (int (pos 5)) ∷ Send 0 ∷ Add 0 0 (int (pos 6)) ∷ Send 0 ∷ Deliver 1 1 ∷ Deliver 1 0 ∷ Deliver 1 1 ∷ Print 1 0 ∷ [] }

-- node 0 counts 3 and node 1 counts 4; node 1 takes the message of node 0 twice
abbrev pub repeated_script : Script
repeated_script = record { nodes = 2; commands = Inc 0 0 3 ∷ Send 0 ∷ Inc 1 0 4 ∷ Deliver 1 0 ∷ Deliver 1 0 ∷ Print 0 0 ∷ Print 1 0 ∷ [] }

-- node 0 adds 5 and sends; node 1 takes no message
abbrev pub unheard_script : Script
unheard_script = record { nodes = 2; commands = Add 0 0 (int (pos 5)) ∷ Send 0 ∷ Print 1 0 ∷ [] }

-- node 0 adds 5 and 7 and sends after each; node 1 adds 5 of its own and takes the second message, again the second, and the first
abbrev pub lost_script : Script
lost_script = record { nodes = 2; commands = example_commands ++ example_repeats ++ Print 1 0 ∷ [] }
