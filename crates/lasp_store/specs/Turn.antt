-- What a pass knows of a store, and what one turn makes of it.
use Rattle.std.specs.Prelude.{◌≡◌, ℕ, ◌≤◌, true, false, List, [], ◌++◌, All, length, take, Option, Some, None}
use Rattle.model_states.specs.Content.{Content}
use Rattle.model_graph.specs.Graph.{Decl}
use Rattle.model_journal.specs.Entry.{Entry, Frame}
use Rattle.model_journal.specs.Journal.{graph, vals, counts}
use Rattle.model_journal.specs.Callers.{MayMake}
use Rattle.model_journal.specs.Legal.{IsLegal}
use Rattle.model_core.specs.Core.{Core, IsCore}
use Rattle.lasp_histlock.specs.Names.{LockId}
use Rattle.lasp_histlock.specs.Passes.{PassView, after_take, after_give}
use Rattle.lasp_core.specs.Listed.{GoesOn}

-- what a pass of a store knows
abbrev pub Knows : Type 0
Knows = PassView Entry Frame

-- a frame that is told; each pass of a lock has one
abbrev pub frame_in : Option Frame → Frame
frame_in None = record { opening = []; replica = 0; nodes = 0 }
frame_in (Some X) = X

-- the frame that the pass knows
abbrev pub frame_of : Knows → Frame
frame_of p = frame_in p.frame

-- the entries that there were when it looked last: at these its last call was answered
abbrev pub looked_at : Knows → List Entry
looked_at p = take p.told p.seen

-- the graph, the contents and the counts at which its last call was answered
abbrev pub graph_at : Knows → List Decl
graph_at p = graph (frame_of p) (looked_at p)

abbrev pub vals_at : Knows → List Content
vals_at p = vals (frame_of p) (looked_at p)

abbrev pub counts_at : Knows → List ℕ
counts_at p = counts (frame_of p) (looked_at p)

-- the graph after all entries that it has seen
abbrev pub graph_seen : Knows → List Decl
graph_seen p = graph (frame_of p) p.seen

-- ---- turns

-- the pass after its turn ended, in which these entries were added
abbrev pub after_end : List Entry → Knows → Knows
after_end more p = record p { turn = false; seen = p.seen ++ more; own = p.own ++ more }

-- the pass after a turn in which the journal had the list, and these entries were added
abbrev pub after_turn : ℕ → List Entry → List Entry → Knows → Knows
after_turn misses list more p = after_end more (after_take list (record p { misses = misses }))

-- one turn: it found a list that goes on what the pass had seen, and added these entries
pub record HadTurn (more : List Entry) (old new : Knows) : Type 0 where
  pub goes_on : GoesOn old.seen (looked_at new)
  pub pass : new ≡ after_turn new.misses (looked_at new) more old
  pub misses : old.misses ≤ new.misses
  pub told : old.told ≤ new.told
  pub framed : new.frame ≡ Some (frame_of new)
  pub legal : IsLegal (frame_of new) new.seen

-- the same of a call that tries once
pub record TriedTurn (more : List Entry) (old new : Knows) : Type 0 where
  pub turn : HadTurn more old new
  pub unmissed : new.misses ≡ old.misses

-- a pass of the store that is free and knows a legal list
pub record IsSeated (store : LockId) (p : Knows) : Type 0 where
  pub lock : p.lock ≡ store
  pub idle : p.turn ≡ false
  pub framed : p.frame ≡ Some (frame_of p)
  pub legal : IsLegal (frame_of p) p.seen

-- ---- inside of a turn

-- the core of the same replica with the same entries
pub record IsStill (c d : Core) : Type 0 where
  pub frame : d.frame ≡ c.frame
  pub entries : d.entries ≡ c.entries

-- the pass is in its turn, and the core is as it took it
pub record IsInTurn (store : LockId) (p : Knows) (c : Core) : Type 0 where
  pub lock : p.lock ≡ store
  pub turn : p.turn ≡ true
  pub seen : p.seen ≡ c.entries
  pub told : p.told ≡ length c.entries
  pub frame : p.frame ≡ Some c.frame

-- a turn began, in which the pass has the core
pub record HasBegun (store : LockId) (old new : Knows) (c : Core) : Type 0 where
  pub goes_on : GoesOn old.seen c.entries
  pub pass : new ≡ after_take c.entries (record old { misses = new.misses })
  pub misses : old.misses ≤ new.misses
  pub told : old.told ≤ new.told
  pub turn : IsInTurn store new c
  pub core : IsCore c

-- the same of a call that tried once
pub record HasTried (store : LockId) (old new : Knows) (c : Core) : Type 0 where
  pub begun : HasBegun store old new c
  pub unmissed : new.misses ≡ old.misses

-- the pass is in its turn, and in the core stand entries that it may make, behind those that it was taken with
pub record MayEnd (store : LockId) (p : Knows) (c : Core) : Type 0 where
  pub lock : p.lock ≡ store
  pub turn : p.turn ≡ true
  pub told : p.told ≡ length p.seen
  pub more : List Entry
  pub entries : c.entries ≡ p.seen ++ more
  pub may : All (λ e. (e.by ≡ p.number) × MayMake p.number e.act) more
  pub frame : p.frame ≡ Some c.frame
  pub legal : IsLegal c.frame c.entries

-- the turn ended, and the core was given back
pub record HasGiven (c : Core) (p new : Knows) : Type 0 where
  pub pass : new ≡ after_give c.entries p
  pub list : looked_at new ≡ p.seen
  pub seen : new.seen ≡ c.entries
  pub frame : frame_of new ≡ c.frame
  pub framed : new.frame ≡ Some (frame_of new)
  pub legal : IsLegal (frame_of new) new.seen

-- the turn ended, in which these entries were added
pub record HasEnded (more : List Entry) (p new : Knows) : Type 0 where
  pub pass : new ≡ after_end more p
  pub list : looked_at new ≡ p.seen
  pub framed : new.frame ≡ Some (frame_of new)
  pub legal : IsLegal (frame_of new) new.seen
