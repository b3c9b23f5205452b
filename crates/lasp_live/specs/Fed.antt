-- How far a feeder has come, and what it tells at its end.
use Rattle.std.specs.Prelude.{◌≡◌, ◌≢◌, ℕ, ◌-◌, ◌<◌, ◌≤◌, ◌==◌, true, Bool, List, [], ◌∷◌, ◌++◌, length, slice_get, slice_index_or, Option, Some, None}
use Rattle.model_core.specs.Peer.{peer_of}
use Rattle.model_graph.specs.Evaluation.{content_at}
use Rattle.model_graph.specs.Graph.{Counter, Decl, kind_at}
use Rattle.model_states.specs.Counts.{count_at}
use Rattle.model_journal.specs.Entry.{Act, Update, Deliver, Bind, Extend, Entry, Frame}
use Rattle.model_graph.specs.Message.{Message}
use Rattle.model_runs.specs.Calls.{frame_of}
use Rattle.model_world.specs.Command.{Script}
use Rattle.model_live.specs.Knows.{Knows}
use Rattle.model_live.specs.Lived.{heard_of, numbered, first_number, AreOfOthers}
use Rattle.model_live.specs.Story.{ArePlaced, Goes, deeds_from, letters_in, letters, IsStory}
use Rattle.model_live.specs.Together.{AreWithin, own_updates}
use Rattle.lasp_live.specs.Diary.{notes_of, story_of, AreTold}
use Rattle.lasp_live.specs.Ends.{Out, In, IsUnput, IsUntaken}
use Rattle.lasp_live.specs.Mail.{mails, letters_so_far, letters_and_end, if_ended}
use Rattle.lasp_live.specs.Own.{CountsOwn, peer_before, steps_before, total_in}
use Rattle.lasp_live.specs.declared.diary.Diary.{Diary}
use Rattle.lasp_live.specs.declared.log.Log.{Log}
use Rattle.lasp_live.specs.declared.own.Own.{Own}

-- a node of a run: the graph, the script, and the node's number
pub record Setting : Type 0 where
  pub graph : List Decl
  pub script : Script
  pub me : ℕ

abbrev pub frame_in : Setting → Frame
frame_in s = frame_of s.graph s.script.nodes s.me

-- ---- what is heard

-- nothing more comes of node q; of one that isn't there nothing does
abbrev pub has_ended : List Bool → ℕ → Bool
has_ended ended q = slice_index_or ended q true

-- of nobody
abbrev pub HaveEnded : Setting → List Bool → Type 0
HaveEnded s ended = (q : ℕ) → q < s.script.nodes → has_ended ended q ≡ true

-- what was taken of a sender: these messages, which stand in the journal under their numbers, and then the end if it has ended
pub record HasHeard (entries : List Entry) (q : ℕ) (i : In) (ended : Bool) : Type 0 where
  pub messages : List Message
  pub got : mails i.got ≡ if_ended ended messages
  pub heard : heard_of q entries ≡ numbered (first_number q) messages

-- a journal in which stands what was taken from the node's mailboxes, and of others nothing else: it knows what a node knows that runs beside others
pub record Hears (s : Setting) (seen : List Entry) (own : Own) (ended : List Bool) (ins : List In) : Type 0 where
  pub knows : Knows s.graph s.script s.me own.updates (total_in own) seen
  pub many : length ended ≡ s.script.nodes
  pub itself : has_ended ended s.me ≡ true
  pub heard : (q : ℕ) (e : In) → slice_get ins q ≡ Some e → q ≢ s.me → HasHeard seen q e (has_ended ended q)
  pub untaken : IsUntaken ins s.me

-- a message that came, or a result
abbrev pub IsHearing : Act → Type 0
IsHearing (Update x op) = ⊥
IsHearing (Deliver i m) = Unit {0}
IsHearing (Bind y n) = Unit {0}
IsHearing (Extend d) = ⊥

abbrev pub AreHearings : List Entry → Type 0
AreHearings [] = Unit {0}
AreHearings (e ∷ entries) = IsHearing e.act × AreHearings entries

-- the journal goes on by these alone
pub record HearsMore (old new : List Entry) : Type 0 where
  pub more : List Entry
  pub is : new ≡ old ++ more
  pub hearings : AreHearings more

-- ---- what is done

-- A feeder behind the first i commands, none of which failed: its journal and its diary tell them, and its letters lie in every other node's mailbox.
pub record IsAt (s : Setting) (i : ℕ) (seen : List Entry) (log : Log) (outs : List Out) (ins : List In) : Type 0 where
  pub hears : Hears s seen log.own log.ended.items ins
  pub unfailed : log.diary.failed ≡ None
  pub placed : ArePlaced 0 (length seen) (notes_of log.diary)
  pub goes : Goes (frame_in s) seen (steps_before s.script s.me i) (deeds_from 0 (notes_of log.diary) seen) None
  pub told : AreTold (frame_in s) seen log.diary.notes.items
  pub own : CountsOwn s.graph s.script s.me i log.own
  pub few : log.sent ≤ i
  pub sent : log.sent ≡ length (letters_in (frame_in s) seen (notes_of log.diary))
  pub put : (p : ℕ) (o : Out) → slice_get outs p ≡ Some o → p ≢ s.me → mails o.put ≡ letters_so_far (letters_in (frame_in s) seen (notes_of log.diary))
  pub unput : IsUnput outs s.me

-- a log in which nothing stands
pub record IsFresh (g : List Decl) (nodes me : ℕ) (log : Log) : Type 0 where
  pub notes : log.diary.notes.items ≡ []
  pub unfailed : log.diary.failed ≡ None
  pub size : length log.own.totals.items ≡ length g
  pub updates : log.own.updates ≡ 0
  pub totals : (x : ℕ) → total_in log.own x ≡ 0
  pub sent : log.sent ≡ 0
  pub many : length log.ended.items ≡ nodes
  pub ended : (q : ℕ) → q < nodes → has_ended log.ended.items q ≡ (q == me)

-- ---- what is told

-- A journal that has of the node's own just what its steps before command i make, by its updates and by each counter, whatever came of others; and that holds of nobody more than all updates together come to.
pub record HoldsOwn (s : Setting) (i : ℕ) (seen : List Entry) : Type 0 where
  pub updates : count_at (peer_of (frame_in s) seen).counts s.me ≡ count_at (peer_before s.graph s.script s.me i).counts s.me
  pub totals : (x : ℕ) → x < length s.graph → kind_at s.graph x ≡ Counter
      → count_at (content_at (peer_of (frame_in s) seen).contents x).counts s.me ≡ count_at (content_at (peer_before s.graph s.script s.me i).contents x).counts s.me
  pub known : (q : ℕ) → q < s.script.nodes → count_at (peer_of (frame_in s) seen).counts q ≤ own_updates s.graph s.script q
  pub within : AreWithin s.graph s.script (peer_of (frame_in s) seen).contents

-- how many commands a node is behind that failed at this one; all, where it failed at none
abbrev pub behind : Script → Option ℕ → ℕ
behind script None = length script.commands
behind script (Some c) = c - 1

-- A feeder at its end: its journal and its diary are a story of its node, what it noted is so, all its letters and then the end lie in every other node's mailbox, and it took all that stands in its own ones, to the end of each, and nothing else; its mailbox to itself stays unused.
pub record HasFed (s : Setting) (seen : List Entry) (diary : Diary) (outs : List Out) (ins : List In) : Type 0 where
  pub story : IsStory s.graph s.script s.me (story_of seen diary)
  pub told : AreTold (frame_in s) seen diary.notes.items
  pub put : (p : ℕ) (o : Out) → slice_get outs p ≡ Some o → p ≢ s.me → mails o.put ≡ letters_and_end (letters (frame_in s) (story_of seen diary))
  pub got : (q : ℕ) (e : In) → slice_get ins q ≡ Some e → q ≢ s.me
      → (messages : List Message) × (mails e.got ≡ letters_and_end messages) × (heard_of q seen ≡ numbered (first_number q) messages)
  pub others : AreOfOthers s.script.nodes s.me seen
  pub unput : IsUnput outs s.me
  pub untaken : IsUntaken ins s.me
  pub own : HoldsOwn s (behind s.script diary.failed) seen
