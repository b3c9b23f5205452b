-- An update in steps: what it brings, and the replica once this is joined in but not written down yet.
use Rattle.std.specs.Prelude.{◌≡◌, ℕ, ◌+◌, ◌<◌, ◌≤◌, ◌↔◌, FitsSigned, Bool, IsTrue, IsFalse, if◌then◌else◌, List, length, map, slice_set, vec_len, vec_capacity}
use Rattle.std.specs.Arc.{arc_value}
use mir.Syntax.{w64}
use Rattle.model_states.specs.Counts.{count_at}
use Rattle.model_states.specs.Content.{join_contents, size_of, row_limit, IsContentAtMost, IsOrdered}
use Rattle.model_states.specs.Update.{delta}
use Rattle.model_graph.specs.Graph.{is_source, kind_at}
use Rattle.model_wire.specs.Lawful.{IsSpellable}
use Rattle.lasp_value.specs.Value.{val_of}
use Rattle.lasp_state.specs.declared.state.State.{State}
use Rattle.lasp_state.specs.declared.op.Op.{Op}
use Rattle.lasp_state.specs.declared.op.Op.TheVariants as op
use Rattle.lasp_state.specs.State.{content_of, op_of}
use Rattle.lasp_graph.specs.States.{Held, held_of, held_at, grown, AreJoinable}
use Rattle.lasp_replica.specs.History as history
use Rattle.lasp_replica.specs.History.{History}
use Rattle.lasp_replica.specs.Kept.{Kept}
use Rattle.lasp_replica.specs.Parts.{news_of, AreRowsOf}
use Rattle.lasp_replica.specs.Replica.{told, is_for, kept_at}
use Rattle.lasp_replica.specs.declared.replica.Replica.{Replica}

-- what an operation brings has a spelling: its numbers have 64 bits, its texts are UTF-8
abbrev pub IsInFormat : Op → Type 0
IsInFormat (op.Add v) = IsSpellable (val_of v)
IsInFormat (op.Remove v) = IsSpellable (val_of v)
IsInFormat (op.Insert v) = IsSpellable (val_of v)
IsInFormat (op.Inc by) = Unit {0}
IsInFormat (op.Max n) = FitsSigned w64 n
IsInFormat (op.Join s) = Unit {0}

-- nothing refuses an update of variable x, and this joined in is what its delta joined in is
pub record IsGain (r : Replica) (x : ℕ) (o : Op) (d : State) : Type 0 where
  pub declared : x < length (arc_value r.graph)
  pub source : IsTrue (is_source (kind_at (arc_value r.graph) x))
  pub suits : IsTrue (is_for (length r.counts) o (kind_at (arc_value r.graph) x))
  pub few : count_at r.counts r.me < 100000
  pub joined : join_contents (held_at r.states x).content (content_of d) ≡ join_contents (held_at r.states x).content (delta (op_of o) (held_at r.states x).content r.me (count_at r.counts r.me + 1))
  pub ordered : IsOrdered (content_of d)
  pub small : size_of (join_contents (held_at r.states x).content (content_of d)) ≤ row_limit
  pub joinable : AreJoinable (held_at r.states x) (held_of d)

-- a state is joined into variable x, and memory is there to write it down
pub record IsPrepared (x : ℕ) (d : Held) (grows : Bool) (old new : Replica) : Type 0 where
  pub graph : arc_value new.graph ≡ arc_value old.graph
  pub opening : new.opening ≡ old.opening
  pub me : new.me ≡ old.me
  pub counts : new.counts ≡ old.counts
  pub processes : new.processes.items ≡ old.processes.items
  pub entries : new.journal.items ≡ old.journal.items
  pub room : vec_len new.journal < vec_capacity new.journal
  pub states : new.states ≡ slice_set old.states x (grown (held_at old.states x) d)
  pub histories : map told new.histories.items ≡ map told old.histories.items
  pub ready : IsTrue (kept_at new.histories.items x).prepared
  pub pending : AreRowsOf (news_of (held_at old.states x).shape (held_at old.states x).content d.content) (kept_at new.histories.items x).pending
  pub grows_is : IsFalse grows ↔ IsContentAtMost d.content (held_at old.states x).content

-- the histories after variable x grew or not at an entry by the rows that it has made ready
abbrev pub recorded : Bool → ℕ → ℕ → List Kept → List History
recorded grows x entry histories = if grows then slice_set (map told histories) x (history.grown (kept_at histories x).history (kept_at histories x).pending entry) else map told histories
