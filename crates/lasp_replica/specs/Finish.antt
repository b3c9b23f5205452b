-- What is made ready for the result of a job, before anything changes.
use Rattle.std.specs.Prelude.{◌≡◌, ℕ, ◌<◌, ◌↔◌, Bool, IsTrue, IsFalse, List, map, vec_len, vec_capacity}
use Rattle.std.specs.Arc.{arc_value}
use Rattle.model_values.specs.Row.{Row}
use Rattle.model_states.specs.Content.{IsContentAtMost}
use Rattle.lasp_state.specs.declared.state.State.{State}
use Rattle.lasp_state.specs.State as state
use Rattle.lasp_graph.specs.States.{Held, held_at}
use Rattle.lasp_replica.specs.History.{History, grown}
use Rattle.lasp_replica.specs.Kept.{Kept}
use Rattle.lasp_replica.specs.Parts.{news_of, AreRowsOf}
use Rattle.lasp_replica.specs.Replica.{told, kept_at}
use Rattle.lasp_replica.specs.declared.replica.Replica.{Replica}

-- whether a variable grows where this state takes the place of its own, and the rows that it gains if it is a set
pub record AreNewsOf (old : Held) (s : State) (grows : Bool) (rows : List Row) : Type 0 where
  pub still : IsFalse grows ↔ IsContentAtMost (state.content_of s) old.content
  pub rows_are : rows ≡ news_of old.shape old.content (state.content_of s)

-- a variable's history after the growth that it has made ready, at an entry
abbrev pub grown_at : List Kept → ℕ → ℕ → History
grown_at histories y entry = grown (kept_at histories y).history (kept_at histories y).pending entry

-- the replica as it was, but for memory that was made ready
pub record IsAlike (old new : Replica) : Type 0 where
  pub graph : arc_value new.graph ≡ arc_value old.graph
  pub opening : new.opening ≡ old.opening
  pub me : new.me ≡ old.me
  pub counts : new.counts ≡ old.counts
  pub states : new.states ≡ old.states
  pub histories : map told new.histories.items ≡ map told old.histories.items
  pub processes : new.processes.items ≡ old.processes.items
  pub journal : new.journal.items ≡ old.journal.items

-- the memory for this state of variable y is there: that of one entry, and that of a growth by these rows
pub record HasRoom (y : ℕ) (s : State) (grows : Bool) (r : Replica) : Type 0 where
  pub entry : vec_len r.journal < vec_capacity r.journal
  pub still : IsFalse grows ↔ IsContentAtMost (state.content_of s) (held_at r.states y).content
  pub prepared : IsTrue (kept_at r.histories.items y).prepared
  pub pending : AreRowsOf (news_of (held_at r.states y).shape (held_at r.states y).content (state.content_of s)) (kept_at r.histories.items y).pending
