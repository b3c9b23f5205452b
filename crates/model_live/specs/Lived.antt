-- Stories of nodes that ran beside each other and heard of each other, and the text that tells them. Who came first, and which results stand where, differs from call to call; what each node did and heard doesn't.
use Rattle.std.specs.Prelude.{◌≡◌, ◌≢◌, ℕ, ◌+◌, ◌*◌, ◌<◌, ◌&&◌, nat_le, nat_lt, if◌then◌else◌, IsTrue, Bool, List, [], ◌∷◌, ◌++◌, codes, length, slice_get, Option, Some, None}
use Rattle.std.specs.Fmt.{decimal}
use Rattle.model_graph.specs.Graph.{Decl, kind_at, name_at}
use Rattle.model_graph.specs.Message.{Message}
use Rattle.model_world.specs.Command.{Script}
use Rattle.model_world.specs.Line.{line, shown_content, known_line}
use Rattle.model_journal.specs.Entry.{Act, Update, Deliver, Bind, Extend, Entry, Frame}
use Rattle.model_journal.specs.Journal.{counts}
use Rattle.model_runs.specs.Calls.{frame_of}
use Rattle.model_core.specs.Trace.{entry_line, updates_with}
use Rattle.model_live.specs.Story.{Noted, Sent, Printed, Note, Story, notes_at, shown_after, letters, IsStory}

-- ---- who heard whom

-- the numbers of node q's messages begin here, and go on to where those of the next node begin
abbrev pub numbers_of_one : ℕ
numbers_of_one = 100000

abbrev pub first_number : ℕ → ℕ
first_number q = q * numbers_of_one

-- it is the number of a message of node q
abbrev pub is_of : ℕ → ℕ → Bool
is_of q i = nat_le (first_number q) i && nat_lt i (first_number q + numbers_of_one)

-- the message of node q that an act takes in, if it does, with its number
abbrev pub heard_by : ℕ → Act → List (ℕ × Message)
heard_by q (Update x op) = []
heard_by q (Deliver i m) = if is_of q i then (i, m) ∷ [] else []
heard_by q (Bind y n) = []
heard_by q (Extend d) = []

-- the messages of node q among the entries, in order
unfoldable pub heard_of : ℕ → List Entry → List (ℕ × Message)
heard_of q [] = []
heard_of q (e ∷ more) = heard_by q e.act ++ heard_of q more

-- messages in order with numbers from i on
unfoldable pub numbered : ℕ → List Message → List (ℕ × Message)
numbered i [] = []
numbered i (m ∷ more) = (i, m) ∷ numbered (i + 1) more

-- it takes in no message but of another node
abbrev pub IsOfAnother : ℕ → ℕ → Act → Type 0
IsOfAnother nodes p (Update x op) = Unit {0}
IsOfAnother nodes p (Deliver i m) = (q : ℕ) × (q < nodes) × (q ≢ p) × IsTrue (is_of q i)
IsOfAnother nodes p (Bind y n) = Unit {0}
IsOfAnother nodes p (Extend d) = Unit {0}

abbrev pub AreOfOthers : ℕ → ℕ → List Entry → Type 0
AreOfOthers nodes p [] = Unit {0}
AreOfOthers nodes p (e ∷ more) = IsOfAnother nodes p e.act × AreOfOthers nodes p more

-- Stories of all nodes of a script. Each is one that its node's commands may come to. Each node, whether it failed or not, heard all that every other node sent, in the order in which that was sent, each once, and as it was when it was sent; and it heard nothing else.
pub record AreStories (g : List Decl) (script : Script) (stories : List Story) : Type 0 where
  pub many : length stories ≡ script.nodes
  pub each : (p : ℕ) (s : Story) → slice_get stories p ≡ Some s → IsStory g script p s
  pub heard : (p q : ℕ) (s t : Story) → slice_get stories p ≡ Some s → slice_get stories q ≡ Some t → p ≢ q
      → heard_of q s.entries ≡ numbered (first_number q) (letters (frame_of g script.nodes q) t)
  pub others : (p : ℕ) (s : Story) → slice_get stories p ≡ Some s → AreOfOthers script.nodes p s.entries

-- the least command at which a node failed, if one did
abbrev pub lesser : Option ℕ → Option ℕ → Option ℕ
lesser None other = other
lesser (Some c) None = Some c
lesser (Some c) (Some d) = Some (if nat_le c d then c else d)

abbrev pub first_failed : List Story → Option ℕ
first_failed [] = None
first_failed (s ∷ more) = lesser s.failed (first_failed more)

-- ---- the text

-- `NODE send PLACE`, or `NODE print PLACE NAME VALUE`
abbrev pub note_words : List Decl → Frame → List Entry → ℕ → ℕ → Noted → List (List ℕ)
note_words g X entries p n Sent = decimal p ∷ codes "send" ∷ decimal n ∷ []
note_words g X entries p n (Printed x) = decimal p ∷ codes "print" ∷ decimal n ∷ name_at g x ∷ shown_content (kind_at g x) (shown_after X entries n x) ∷ []

abbrev pub note_line : List Decl → Frame → List Entry → ℕ → Note → List ℕ
note_line g X entries p n = line (note_words g X entries p n.place n.what)

abbrev pub note_lines : List Decl → Frame → List Entry → ℕ → List Note → List ℕ
note_lines g X entries p [] = []
note_lines g X entries p (n ∷ notes) = note_line g X entries p n ++ note_lines g X entries p notes

-- the lines from place i on, before which so many updates stand: those of the notes that were made there, and that of the entry
unfoldable pub lines_from : List Decl → Frame → ℕ → Story → ℕ → ℕ → List Entry → List ℕ
lines_from g X p s i k [] = note_lines g X s.entries p (notes_at i s.notes)
lines_from g X p s i k (e ∷ more) =
    note_lines g X s.entries p (notes_at i s.notes) ++ entry_line g p i (updates_with k e.act) e ++ lines_from g X p s (i + 1) (updates_with k e.act) more

-- the lines of node p's story
abbrev pub story_lines : List Decl → ℕ → ℕ → Story → List ℕ
story_lines g nodes p s = lines_from g (frame_of g nodes p) p s 0 0 s.entries

-- those of the nodes from p on
abbrev pub stories_lines : List Decl → ℕ → ℕ → List Story → List ℕ
stories_lines g nodes p [] = []
stories_lines g nodes p (s ∷ more) = story_lines g nodes p s ++ stories_lines g nodes (p + 1) more

-- what each node from p on counts at its end
abbrev pub counted_lines : List Decl → ℕ → ℕ → List Story → List ℕ
counted_lines g nodes p [] = []
counted_lines g nodes p (s ∷ more) = known_line p (counts (frame_of g nodes p) s.entries) ++ counted_lines g nodes (p + 1) more

abbrev pub live_text : List Decl → ℕ → List Story → List ℕ
live_text g nodes stories = stories_lines g nodes 0 stories ++ counted_lines g nodes 0 stories

-- a text that tells such stories, of which this is the first command at which a node failed
pub record IsLived (g : List Decl) (script : Script) (failed : Option ℕ) (bytes : List ℕ) : Type 0 where
  pub stories : List Story
  pub lawful : AreStories g script stories
  pub fails : first_failed stories ≡ failed
  pub text : bytes ≡ live_text g script.nodes stories
