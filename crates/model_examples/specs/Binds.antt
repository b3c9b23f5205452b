-- Cases of a replica's entries: two binds of one variable, in either order.
use Rattle.std.specs.Prelude.{pos, negsuc, false, List, [], ◌∷◌}
use Rattle.model_values.specs.Value.{int}
use Rattle.model_values.specs.Token.{single}
use Rattle.model_states.specs.Content.{Content, of_set}
use Rattle.model_states.specs.Update.{Add}
use Rattle.model_journal.specs.Entry.{Update, Bind, Entry, Frame, entry}
use Rattle.model_examples.specs.Processes.{map_graph}

-- the entries of the example, but the bind that read less comes first
abbrev pub entries_in_order : List Entry
entries_in_order = entry 0 (Update 0 (Add (int (pos 1)))) ∷ entry 0 (Update 1 (Add (int (pos 2)))) ∷ entry 2 (Bind 2 1) ∷ entry 1 (Bind 2 2) ∷ []

-- a has 1, b has 2, and their union c has this content
abbrev pub contents_with : Content → List Content
contents_with c = of_set (((int (pos 1), single 0 1), false) ∷ []) ∷ of_set (((int (pos 2), single 0 2), false) ∷ []) ∷ c ∷ []

-- the union has 1 alone
abbrev pub union_of_one : Content
union_of_one = of_set (((int (pos 1), single 0 1), false) ∷ [])

-- the union has both
abbrev pub union_of_both : Content
union_of_both = of_set (((int (pos 1), single 0 1), false) ∷ ((int (pos 2), single 0 2), false) ∷ [])

-- one replica, with a and m, the numbers of a without their signs
abbrev pub map_frame : Frame
map_frame = record { opening = map_graph; replica = 0; nodes = 1 }

-- 1 and -1 are added to a; caller 2 binds what it read after both, then caller 1 what it read after the first
abbrev pub map_entries : List Entry
map_entries = entry 0 (Update 0 (Add (int (pos 1)))) ∷ entry 0 (Update 0 (Add (int (negsuc 0)))) ∷ entry 2 (Bind 1 2) ∷ entry 1 (Bind 1 1) ∷ []

-- a has 1 and -1, and m has 1 under both tokens
abbrev pub mapped_contents : List Content
mapped_contents =
    of_set (((int (negsuc 0), single 0 2), false) ∷ ((int (pos 1), single 0 1), false) ∷ [])
    ∷ of_set (((int (pos 1), single 0 1), false) ∷ ((int (pos 1), single 0 2), false) ∷ [])
    ∷ []
