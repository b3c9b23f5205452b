-- What a delivery leaves of what a replica keeps.
use Rattle.std.specs.Prelude.{◌≡◌, ℕ, ◌<◌, List, length, Some}
use Rattle.model_values.specs.Row.{Row}
use Rattle.model_states.specs.Counts.{larger}
use Rattle.model_states.specs.Content.{Content, IsOrdered, IsContentAtMost}
use Rattle.model_graph.specs.Lawful.{IsDerived}
use Rattle.model_graph.specs.Message.{Message, brought, gained}
use Rattle.lasp_replica.specs.History.{History, grown}
use Rattle.lasp_graph.specs.States.{held_at, contents_of}
use Rattle.lasp_replica.specs.Parts.{Parts, history_at, news_of, AreRowsOf}

-- the history of a source that what a message brings makes grow has the growth at this entry more, by the new rows in any order; every other history is as it was
pub record AreRecorded (m : Message) (entry : ℕ) (p : Parts) (histories : List History) : Type 0 where
  pub many : length histories ≡ length p.histories
  pub still : (x : ℕ) → x < length p.graph → ((c : Content) → brought p.graph m x ≡ Some c → IsContentAtMost c (held_at p.states x).content) → history_at histories x ≡ history_at p.histories x
  pub grew : (x : ℕ) → x < length p.graph → (c : Content) → brought p.graph m x ≡ Some c → (IsContentAtMost c (held_at p.states x).content → ⊥)
      → (rows : List Row) × AreRowsOf (news_of (held_at p.states x).shape (held_at p.states x).content c) rows × (history_at histories x ≡ grown (history_at p.histories x) rows entry)

-- the message was joined in: contents, counts and histories are as it makes them, and all else is as it was
pub record IsTakenIn (m : Message) (entry : ℕ) (p q : Parts) : Type 0 where
  pub graph : q.graph ≡ p.graph
  pub bases : q.bases ≡ p.bases
  pub counts : q.counts ≡ larger p.counts m.counts
  pub contents : contents_of q.states ≡ gained (brought p.graph m) 0 (contents_of p.states)
  pub shapes : (x : ℕ) → x < length p.graph → (held_at q.states x).shape ≡ (held_at p.states x).shape
  pub derived : (y : ℕ) → IsDerived p.graph y → held_at q.states y ≡ held_at p.states y
  pub histories : AreRecorded m entry p q.histories

-- what the message brings is in order
abbrev pub IsInOrder : Message → Parts → Type 0
IsInOrder m p = (x : ℕ) → x < length p.graph → (c : Content) → brought p.graph m x ≡ Some c → IsOrdered c
