-- A diary as plain notes, and what is told by what it keeps beside them.
use Rattle.std.specs.Prelude.{◌≡◌, ℕ, ◌<◌, List, [], ◌∷◌, length, map}
use Rattle.std.specs.Arc.{arc_value}
use Rattle.model_journal.specs.Entry.{Entry, Frame}
use Rattle.model_live.specs.Story as plain
use Rattle.model_live.specs.Story.{Story, message_after, shown_after}
use Rattle.model_graph.specs.Graph.{kind_at}
use Rattle.model_world.specs.Line.{shown_content}
use Rattle.lasp_state.specs.State.{content_of, shown_state}
use Rattle.lasp_live.specs.declared.diary.Diary.{Diary}
use Rattle.lasp_live.specs.declared.diary.Note.{Note}
use Rattle.lasp_live.specs.declared.diary.Noted.{Noted}
use Rattle.lasp_live.specs.declared.diary.Noted.TheVariants.{Send, Print}

abbrev pub noted_of : Noted → plain.Noted
noted_of (Send m) = plain.Sent
noted_of (Print x s) = plain.Printed x

abbrev pub note_of : Note → plain.Note
note_of n = record { place = n.place; what = noted_of n.what }

abbrev pub notes_of : Diary → List plain.Note
notes_of d = map note_of d.notes.items

-- the story of a journal with this diary
abbrev pub story_of : List Entry → Diary → Story
story_of entries d = record { entries = entries; notes = notes_of d; failed = d.failed }

-- what was sent is the node's message after so many entries, and what was printed of a variable of the graph is what plain evaluation gives there, and shows it
abbrev pub IsTold : Frame → List Entry → ℕ → Noted → Type 0
IsTold X entries n (Send m) = arc_value m ≡ message_after X entries n
IsTold X entries n (Print x s) = (x < length X.opening) × (content_of (arc_value s) ≡ shown_after X entries n x) × (shown_state (arc_value s) ≡ shown_content (kind_at X.opening x) (shown_after X entries n x))

abbrev pub AreTold : Frame → List Entry → List Note → Type 0
AreTold X entries [] = Unit {0}
AreTold X entries (n ∷ notes) = IsTold X entries n.place n.what × AreTold X entries notes
