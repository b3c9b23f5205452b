-- An example: the sources a and b, their union c, and two binds of c that come out of order.
use Rattle.std.specs.Prelude.{pos, List, [], ◌∷◌}
use Rattle.model_values.specs.Value.{int}
use Rattle.model_states.specs.Update.{Add}
use Rattle.model_graph.specs.Graph.{OrSet, Union}
use Rattle.model_journal.specs.Entry.{Update, Bind, Entry, Frame, entry}

-- one replica, with the graph of a, b and c
abbrev pub example_frame : Frame
example_frame = record {
  opening = record { name = 97 ∷ []; kind = OrSet } ∷ record { name = 98 ∷ []; kind = OrSet } ∷ record { name = 99 ∷ []; kind = Union 0 1 } ∷ [];
  replica = 0;
  nodes = 1;
}

-- 1 is added to a, 2 to b; caller 1 binds what it read after both, then caller 2 what it read after the first
abbrev pub example_entries : List Entry
example_entries = entry 0 (Update 0 (Add (int (pos 1)))) ∷ entry 0 (Update 1 (Add (int (pos 2)))) ∷ entry 1 (Bind 2 2) ∷ entry 2 (Bind 2 1) ∷ []
