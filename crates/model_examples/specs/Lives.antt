-- An example of nodes beside each other: node 0 counts 3 and sends, node 1 waits until it has heard of it and prints.
use Rattle.std.specs.Prelude.{[], ◌∷◌, None, Some}
use Rattle.model_graph.specs.Graph.{Counter}
use Rattle.model_states.specs.Content.{of_counts}
use Rattle.model_states.specs.Update.{Inc}
use Rattle.model_graph.specs.Message.{Message}
use Rattle.model_journal.specs.Entry.{Update, Deliver, entry}
use Rattle.model_world.specs.Command.{Count, Send, Print, Await, Script}
use Rattle.model_world.specs.Command as command
use Rattle.model_live.specs.Story.{Sent, Printed, Story}

abbrev pub heard_script : Script
heard_script = record { nodes = 2; commands = command.Inc 0 0 3 ∷ Send 0 ∷ Await 1 0 (Count 3) ∷ Print 1 0 ∷ [] }

-- what node 0 sends: it counted 3, by one update
abbrev pub heard_message : Message
heard_message = record { counts = 1 ∷ 0 ∷ []; sources = record { decl = record { name = 99 ∷ []; kind = Counter }; content = of_counts (3 ∷ 0 ∷ []) } ∷ [] }

abbrev pub counting_story : Story
counting_story = record { entries = entry 0 (Update 0 (Inc 3)) ∷ []; notes = record { place = 1; what = Sent } ∷ []; failed = None }

abbrev pub hearing_story : Story
hearing_story = record { entries = entry 0 (Deliver 0 heard_message) ∷ []; notes = record { place = 1; what = Printed 0 } ∷ []; failed = None }

-- the second node as it would be if nothing were sent: it fails
abbrev pub lonely_story : Story
lonely_story = record { entries = []; notes = []; failed = Some 3 }
