-- What one node went through: its journal, what it sent and printed and when, and whether it stayed below a threshold. Which stories a node's commands may come to.
use Rattle.std.specs.Prelude.{◌≡◌, ℕ, ◌+◌, ◌≤◌, ◌==◌, IsTrue, IsFalse, Bool, List, [], ◌∷◌, ◌++◌, length, map, filter, take, Option, Some, None}
use Rattle.model_states.specs.Content.{Content}
use Rattle.model_states.specs.Threshold.{meets}
use Rattle.model_graph.specs.Graph.{Decl}
use Rattle.model_graph.specs.Evaluation.{content_at, eval}
use Rattle.model_graph.specs.Message.{Message}
use Rattle.model_world.specs.Command.{Until, Script}
use Rattle.model_world.specs.World.{threshold_of, message_at}
use Rattle.model_journal.specs.Entry.{Act, Update, Deliver, Bind, Extend, Entry, Frame}
use Rattle.model_journal.specs.Callers.{AreMadeByTheirCallers}
use Rattle.model_journal.specs.Journal.{graph, sources, declared}
use Rattle.model_journal.specs.Legal.{IsLegal}
use Rattle.model_core.specs.Peer.{peer_of}
use Rattle.model_runs.specs.Calls.{frame_of}
use Rattle.model_live.specs.Steps.{Deed, Updates, Sends, Prints, Step, Does, Waits, steps}

-- ---- notes

-- what stands in no journal: that the node sent, or printed a variable
pub data Noted : Type 0 where
  Sent : Noted
  Printed : ℕ → Noted

-- and how many entries the journal had then
pub record Note : Type 0 where
  pub place : ℕ
  pub what : Noted

-- the entries of a node's journal, its notes in their order, and the number of the command at which it failed, if it did
pub record Story : Type 0 where
  pub entries : List Entry
  pub notes : List Note
  pub failed : Option ℕ

-- the places of notes never fall, and none is past the last entry
abbrev pub ArePlaced : ℕ → ℕ → List Note → Type 0
ArePlaced least most [] = Unit {0}
ArePlaced least most (n ∷ notes) = (least ≤ n.place) × (n.place ≤ most) × ArePlaced n.place most notes

-- the notes that were made when the journal had so many entries
abbrev pub notes_at : ℕ → List Note → List Note
notes_at i notes = filter (λ n. n.place == i) notes

-- ---- deeds

abbrev pub deed_of : Noted → Deed
deed_of Sent = Sends
deed_of (Printed x) = Prints x

-- a deed with how many entries stood before it
abbrev pub Placed : Type 0
Placed = ℕ × Deed

abbrev pub placed_note : Note → Placed
placed_note n = (n.place, deed_of n.what)

-- the deed that an entry at place i is, if it is one: messages that came and results are none
abbrev pub placed_act : ℕ → Act → List Placed
placed_act i (Update x op) = (i, Updates x op) ∷ []
placed_act i (Deliver j m) = []
placed_act i (Bind y n) = []
placed_act i (Extend d) = []

-- the updates among the entries from place i on, and the notes, in one list
unfoldable pub deeds_from : ℕ → List Note → List Entry → List Placed
deeds_from i notes [] = map placed_note (notes_at i notes)
deeds_from i notes (e ∷ more) = map placed_note (notes_at i notes) ++ placed_act i e.act ++ deeds_from (i + 1) notes more

abbrev pub deeds : Story → List Placed
deeds s = deeds_from 0 s.notes s.entries

-- ---- thresholds

-- how many entries stand before the next deed; all, where there is none
abbrev pub place_before : ℕ → List Placed → ℕ
place_before all [] = all
place_before all (d ∷ rest) = d.0

-- what plain evaluation of the sources gives of a variable after the first n entries
abbrev pub shown_after : Frame → List Entry → ℕ → ℕ → Content
shown_after X entries n x = content_at (eval (graph X (take n entries)) (sources X (take n entries))) x

-- that is at the threshold
abbrev pub is_met : Frame → List Entry → ℕ → ℕ → Until → Bool
is_met X entries n x until = meets (threshold_of [] until) (shown_after X entries n x)

-- These steps, of which those that are deeds are these, and where the node fails. What it waited for and passed is met where its next deed stands, or at the journal's end where none follows; what it failed at is not met there.
pub data Goes (X : Frame) (entries : List Entry) : List Step → List Placed → Option ℕ → Type 0 where
  ends : Goes X entries [] [] None
  does : {place : ℕ} {d : Deed} {left : List Step} {rest : List Placed} {failed : Option ℕ} → Goes X entries left rest failed → Goes X entries (Does d ∷ left) ((place, d) ∷ rest) failed
  passes : {c x : ℕ} {until : Until} {left : List Step} {rest : List Placed} {failed : Option ℕ} → IsTrue (is_met X entries (place_before (length entries) rest) x until)
      → Goes X entries left rest failed → Goes X entries (Waits c x until ∷ left) rest failed
  fails : {c x : ℕ} {until : Until} {left : List Step} → IsFalse (is_met X entries (length entries) x until) → Goes X entries (Waits c x until ∷ left) [] (Some c)

-- ---- one node

-- a story that node p of a script may come to: a legal journal, fed by caller 0 and without declarations; its updates and notes are what the node's commands do, in order, to the end or to the threshold at which it failed
pub record IsStory (g : List Decl) (script : Script) (p : ℕ) (s : Story) : Type 0 where
  pub legal : IsLegal (frame_of g script.nodes p) s.entries
  pub made : AreMadeByTheirCallers s.entries
  pub undeclared : declared s.entries ≡ []
  pub placed : ArePlaced 0 (length s.entries) s.notes
  pub goes : Goes (frame_of g script.nodes p) s.entries (steps p 1 script.commands) (deeds s) s.failed

-- ---- messages

-- what a node sends after its first n entries
abbrev pub message_after : Frame → List Entry → ℕ → Message
message_after X entries n = message_at (graph X (take n entries)) (peer_of X (take n entries))

-- the message of a note, if it tells of one
abbrev pub message_noted : Frame → List Entry → ℕ → Noted → List Message
message_noted X entries n Sent = message_after X entries n ∷ []
message_noted X entries n (Printed x) = []

-- what the node sent, in order
unfoldable pub letters_in : Frame → List Entry → List Note → List Message
letters_in X entries [] = []
letters_in X entries (n ∷ notes) = message_noted X entries n.place n.what ++ letters_in X entries notes

abbrev pub letters : Frame → Story → List Message
letters X s = letters_in X s.entries s.notes
