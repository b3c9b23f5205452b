-- What a run of nodes beside each other leaves.
use Rattle.std.specs.Prelude.{◌≡◌, ℕ, All, List, [], ◌∷◌, length, map, Option, Some, None, slice_get}
use Rattle.std.specs.List.{AllZip}
use Rattle.model_core.specs.Core.{Core}
use Rattle.model_graph.specs.Graph.{Decl}
use Rattle.model_live.specs.Lived.{AreStories, lesser}
use Rattle.model_runs.specs.Calls.{frame_of, unbound}
use Rattle.model_world.specs.Command.{Script}
use Rattle.lasp_live.specs.Ends.{Box}
use Rattle.lasp_live.specs.Steady.{setting}
use Rattle.lasp_live.specs.Texts.{AreTellable, stories_of}
use Rattle.lasp_live.specs.declared.diary.Diary.{Diary}
use Rattle.lasp_live_run.specs.Posts.{Ins, Outs}
use Rattle.lasp_live_run.specs.Seat.{IsServed, SeatView}
use Rattle.lasp_live_run.specs.declared.run.Back.{Back}
use Rattle.lasp_live_run.specs.declared.seat.Seat.{Seat}
use Rattle.lasp_store.specs.Turn as turns
use Rattle.lasp_store.specs.Turn.{Knows}
use Rattle.lasp_store_node.specs.View.{IsFeed, Place, place_of}

-- closed cores and diaries that tell a script: their stories are ones that its nodes may come to
pub record HaveLived (g : List Decl) (script : Script) (cores : List Core) (diaries : List Diary) : Type 0 where
  pub many : length cores ≡ script.nodes
  pub tellable : AreTellable g script.nodes cores diaries
  pub stories : AreStories g script (stories_of cores diaries)

-- the least command at which a node failed, as the diaries tell it
abbrev pub failed_of : List Diary → Option ℕ
failed_of [] = None
failed_of (d ∷ more) = lesser d.failed (failed_of more)

-- ---- desks

-- what contracts see of a desk
abbrev pub seat_view : Seat Knows → SeatView Place
seat_view s = record { me = s.me; place = place_of s.feeder; frame = turns.frame_of s.feeder; seen = s.feeder.seen; outs = s.outs.items; ins = s.ins.items; diary = s.diary }

-- the feeds of all nodes of a script, which went through nothing
pub record AreUnfed (g : List Decl) (script : Script) (feeds : List Knows) : Type 0 where
  pub many : length feeds ≡ script.nodes
  pub frame : (p : ℕ) (f : Knows) → slice_get feeds p ≡ Some f → f.frame ≡ Some (frame_of g script.nodes p)
  pub fresh : (p : ℕ) (f : Knows) → slice_get feeds p ≡ Some f → unbound f.seen ≡ []

-- the desks of all nodes, in order: each has its feed, the ends of its mailboxes and no diary
pub record AreSeated (feeds : List Knows) (outs : Outs) (ins : Ins) (seats : List (Seat Knows)) : Type 0 where
  pub each : (p : ℕ) (s : Seat Knows) → slice_get seats p ≡ Some s → (s.me ≡ p) × (s.diary ≡ None)
  pub feeders : map (λ s. s.feeder) seats ≡ feeds
  pub outlets : map (λ s. s.outs) seats ≡ outs
  pub inlets : map (λ s. s.ins) seats ≡ ins

-- what desks give back: of each its feed, in no turn, its ends, and its diary, which is there
pub record IsBack (seats : List (Seat Knows)) (b : Back) : Type 0 where
  pub feeds : b.feeds.items ≡ map (λ s. s.feeder) seats
  pub are : All (λ f. IsFeed f.lock f) b.feeds.items
  pub outs : b.outs.items ≡ map (λ s. s.outs) seats
  pub ins : b.ins.items ≡ map (λ s. s.ins) seats
  pub diaries : map (λ d. Some d) b.diaries.items ≡ map (λ s. s.diary) seats

-- all nodes of these feeds were fed, each at its desk, and this is what their desks give back
pub record HaveServed (g : List Decl) (script : Script) (boxes : List Box) (feeds : List Knows) (outs : Outs) (ins : Ins) (b : Back) : Type 0 where
  pub seats : List (Seat Knows)
  pub served : List (Seat Knows)
  pub seated : AreSeated feeds outs ins seats
  pub all : AllZip (λ (v w : SeatView Place). IsServed (setting g script v.me) boxes v w) (map seat_view seats) (map seat_view served)
  pub back : IsBack served b
