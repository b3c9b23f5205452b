-- That a feed that settles a store goes through the variables once: what it hands in meanwhile, and how often it takes the core out.
use Rattle.std.specs.Prelude.{◌≡◌, ℕ, ◌+◌, ◌≤◌, ◌<◌, List, [], ◌∷◌, ◌++◌, length}
use Rattle.model_journal.specs.Entry.{Bind, Entry, Frame, entry}
use Rattle.lasp_core.specs.Listed.{GoesOn}
use Rattle.lasp_replica.specs.Jobs.{IsUnclean}
use Rattle.lasp_store.specs.Turn.{Knows, frame_of}

-- the entry is the feed's result of a variable from the first bound on and before the second, which wasn't clean where its job was taken
pub record IsNeeded (X : Frame) (seen : List Entry) (from to : ℕ) (e : Entry) : Type 0 where
  pub var : ℕ
  -- what stood in the journal there
  pub at : List Entry
  pub begins : GoesOn at seen
  pub result : e ≡ entry 0 (Bind var (length at))
  pub unclean : IsUnclean X at var
  pub low : from ≤ var
  pub high : var < to

-- each entry is, and each is of a later variable than the one before it
abbrev pub AreOnce : Frame → List Entry → ℕ → ℕ → List Entry → Type 0
AreOnce X seen from to [] = Unit {0}
AreOnce X seen from to (e ∷ mine) = (n : IsNeeded X seen from to e) × AreOnce X seen (n.var + 1) to mine

-- the feed went once through the variables between the bounds: it handed in such results alone, and took the core out once for each of them, and so many times besides at most
pub record HasPassed (from to turns : ℕ) (old new : Knows) : Type 0 where
  pub mine : List Entry
  pub own : new.own ≡ old.own ++ mine
  pub once : AreOnce (frame_of new) new.seen from to mine
  pub looks : new.looks ≤ old.looks + turns + length mine
