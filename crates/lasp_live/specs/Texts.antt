-- The stories of cores and diaries.
use Rattle.std.specs.Prelude.{◌≡◌, ℕ, ◌≤◌, List, [], ◌∷◌, drop, length, slice_get, Some}
use Rattle.model_core.specs.Core.{Core}
use Rattle.model_core.specs.Peer.{peer_of}
use Rattle.model_graph.specs.Graph.{Decl}
use Rattle.model_journal.specs.Journal.{declared}
use Rattle.model_live.specs.Story.{Note, Story, ArePlaced, notes_at}
use Rattle.model_runs.specs.Calls.{frame_of}
use Rattle.model_world.specs.World.{Peer}
use Rattle.lasp_live.specs.Diary.{notes_of, story_of, AreTold}
use Rattle.lasp_live.specs.declared.diary.Diary.{Diary}

-- the story of each node: its core's journal, and its diary
abbrev pub stories_of : List Core → List Diary → List Story
stories_of [] diaries = []
stories_of (core ∷ cores) [] = []
stories_of (core ∷ cores) (d ∷ diaries) = story_of core.entries d ∷ stories_of cores diaries

-- the replica of a core
abbrev pub peer_in : Core → Peer
peer_in core = peer_of core.frame core.entries

-- the core is node p's, without declarations, and the diary tells of it
pub record IsTellable (g : List Decl) (nodes p : ℕ) (core : Core) (d : Diary) : Type 0 where
  pub frame : core.frame ≡ frame_of g nodes p
  pub undeclared : declared core.entries ≡ []
  pub placed : ArePlaced 0 (length core.entries) (notes_of d)
  pub told : AreTold (frame_of g nodes p) core.entries d.notes.items

-- each is
pub record AreTellable (g : List Decl) (nodes : ℕ) (cores : List Core) (diaries : List Diary) : Type 0 where
  pub many : length diaries ≡ length cores
  pub each : (p : ℕ) (core : Core) (d : Diary) → slice_get cores p ≡ Some core → slice_get diaries p ≡ Some d → IsTellable g nodes p core d

-- The notes from number n on are all that are left where the places before i were told.
pub record AreLeft (i most n : ℕ) (notes : List Note) : Type 0 where
  pub within : n ≤ length notes
  pub placed : ArePlaced i most (drop n notes)
  pub later : (j : ℕ) → i ≤ j → notes_at j notes ≡ notes_at j (drop n notes)
