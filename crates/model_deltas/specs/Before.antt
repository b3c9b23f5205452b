-- Which messages a delta leads from and to, and which ones it may be applied to.
use Rattle.std.specs.Prelude.{◌≡◌, ℕ, ◌≤◌, List, [], ◌∷◌, length}
use Rattle.std.specs.List.{AllByRecursion}
use Rattle.model_states.specs.Counts.{AreCountsAtMost}
use Rattle.model_states.specs.Content.{IsContentAtMost, IsOrdered}
use Rattle.model_graph.specs.Message.{Sent, Message, sent_at}
use Rattle.model_wire.specs.Lawful.{IsNodes, AreAtMost, IsSent}
use Rattle.model_deltas.specs.Delta.{Delta}

-- the sources of the first are the first sources of the second, in their order, by name and kind, and hold no more there
abbrev pub AreSourcesBefore : List Sent → List Sent → Type 0
AreSourcesBefore [] after = Unit {0}
AreSourcesBefore (s ∷ before) [] = ⊥
AreSourcesBefore (s ∷ before) (t ∷ after) = (s.decl ≡ t.decl) × IsContentAtMost s.content t.content × AreSourcesBefore before after

-- the first is an earlier message of the second one's sender: as many nodes, no count and no source is more than in the second
pub record IsBefore (before after : Message) : Type 0 where
  pub nodes : length before.counts ≡ length after.counts
  pub counts : AreCountsAtMost before.counts after.counts
  pub sources : AreSourcesBefore before.sources after.sources

-- what a message has of each source is in order
abbrev pub IsInOrder : Message → Type 0
IsInOrder m = (i : ℕ) → IsOrdered (sent_at m.sources i)

-- sources of one graph that may have grown: those of the one with fewer are the first of the other, by name and kind
abbrev pub AreSourcesAlike : List Sent → List Sent → Type 0
AreSourcesAlike [] more = Unit {0}
AreSourcesAlike (s ∷ sources) [] = Unit {0}
AreSourcesAlike (s ∷ sources) (t ∷ more) = (s.decl ≡ t.decl) × AreSourcesAlike sources more

-- messages among as many nodes, with sources of one graph
pub record AreAlike (m n : Message) : Type 0 where
  pub nodes : length m.counts ≡ length n.counts
  pub sources : AreSourcesAlike m.sources n.sources

-- what has a spelling: 1 to 8 nodes with counts of at most 100,000, none below the one from which the delta goes on, and at most 64 sources
pub record IsDelta (d : Delta) : Type 0 where
  pub nodes : IsNodes (length d.counts)
  pub wide : length d.from ≡ length d.counts
  pub counts : AreAtMost 100000 d.counts
  pub rises : AreCountsAtMost d.from d.counts
  pub few : length d.sources ≤ 64
  pub sources : AllByRecursion (IsSent (length d.counts)) d.sources
