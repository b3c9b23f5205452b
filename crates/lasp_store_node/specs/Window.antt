-- What a node's window shows, and what a node with a window is made of.
use Rattle.std.specs.Prelude.{◌≡◌, ℕ, List, Option, Some, IfSome, slice_get}
use Rattle.lasp_graph.specs.States.{Held}
use Rattle.lasp_histlock.specs.Names.{LockId}
use Rattle.lasp_snap.specs.Version.{Version, entries_last, states_last}
use Rattle.lasp_snap.specs.Views.{ShelfView}
use Rattle.lasp_store.specs.Shelves.{IsShelfOf}
use Rattle.lasp_store.specs.Turn.{Knows}
use Rattle.lasp_node.specs.declared.node.LastSent.{LastSent}
use Rattle.lasp_store_node.specs.View.{IsFeed, IsEarly, AreCounted}

-- the last of these versions is after so many entries, and has this state at the variable's place
pub record IsShownLast (all : List Version) (entries x : ℕ) (h : Held) : Type 0 where
  pub entries_is : entries_last all ≡ entries
  pub state : slice_get (states_last all) x ≡ Some h

-- the feed of the store, in no turn; that it last sent before; the shelf on which it publishes, if it has one; and what it has counted at least, as far as that is told
pub record IsOwn (store : LockId) (p : Knows) (last : Option LastSent) (opened : Option ShelfView) (known : Option (List ℕ)) : Type 0 where
  pub feed : IsFeed store p
  pub early : IsEarly last p
  pub shelf : IfSome opened (IsShelfOf p)
  pub counted : IfSome known (λ ns. AreCounted ns p)
