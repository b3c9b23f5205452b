-- What the state of a declared variable tells of the reads of the variable.
use Rattle.std.proofs.Common.{◌≡◌, ℕ, ◌<◌, IsTrue, List, length, sym, ap, subst, ◌∙◌, arith, Some, slice_get}
use Rattle.std.specs.Arc.{arc_value}
use Rattle.model_states.specs.Content.{Content}
use Rattle.model_states.specs.Threshold.{Shape, suits, meets}
use Rattle.model_graph.specs.Graph.{Decl, kind_at}
use Rattle.model_graph.specs.Lawful as lawful
use Rattle.model_journal.specs.Journal.{graph, val}
use Rattle.model_core.specs.Core.{Read, is_met}
use Rattle.lasp_state.specs.declared.state.State.{State}
use Rattle.lasp_state.specs.State.{content_of, shape_of}
use Rattle.lasp_graph.specs.States.{Held, held_of}
use Rattle.lasp_graph.proofs.Evaluation.{shape-held}
use Rattle.lasp_replica.proofs.PartLaws.{states-long, held-val}
use Rattle.lasp_replica.specs.Replica.{frame_of, entries_of, parts_of, IsReplica}
use Rattle.lasp_replica.specs.declared.replica.Replica.{Replica}
use Rattle.lasp_graph.proofs.SourceLists.{held_found}

-- ---- a declared variable's state

pub graph-length : (r : Replica) → IsReplica r → length (arc_value r.graph) ≡ length (graph (frame_of r) (entries_of r))
graph-length r is = ap (λ (g : List Decl). length g) is.kept.graph

-- there is a state of each declared variable
pub state-there : (r : Replica) → IsReplica r → (x : ℕ) → x < length (graph (frame_of r) (entries_of r)) → x < length r.states
state-there r is x low = omega (arith, low, graph-length r is, states-long (frame_of r) (entries_of r) is.legal (parts_of r) is.kept)

-- the state is of the variable's shape
pub state-shape : (r : Replica) → IsReplica r → (x : ℕ) → x < length (graph (frame_of r) (entries_of r)) → (s : State) → slice_get r.states x ≡ Some (held_of s)
    → shape_of s ≡ lawful.shape_of (frame_of r).nodes (kind_at (graph (frame_of r) (entries_of r)) x)
state-shape r is x low s at =
    sym (shape-held r.states x (held_of s) at)
    ∙ is.kept.shapes x (omega (arith, low, graph-length r is))
    ∙ ap (λ (g : List Decl). lawful.shape_of (frame_of r).nodes (kind_at g x)) is.kept.graph

-- its content is the variable's
pub state-content : (r : Replica) → IsReplica r → (x : ℕ) → (s : State) → slice_get r.states x ≡ Some (held_of s) → content_of s ≡ val (frame_of r) (entries_of r) x
state-content r is x s at =
    sym (ap (λ (h : Held). h.content) ((sym (held_found r.states x (held_of s) at)))) ∙ held-val (frame_of r) (entries_of r) (parts_of r) is.kept x

-- a threshold that suits the variable suits its state
pub state-suits : (r : Replica) → IsReplica r → (read : Read) → read.var < length (graph (frame_of r) (entries_of r))
    → IsTrue (suits read.threshold (lawful.shape_of (frame_of r).nodes (kind_at (graph (frame_of r) (entries_of r)) read.var)))
    → (s : State) → slice_get r.states read.var ≡ Some (held_of s) → IsTrue (suits read.threshold (shape_of s))
state-suits r is read low fits s at = subst (λ (shape : Shape). IsTrue (suits read.threshold shape)) (sym (state-shape r is read.var low s at)) fits

-- the state is at the threshold exactly where the read is met
pub state-met : (r : Replica) → IsReplica r → (read : Read) → (s : State) → slice_get r.states read.var ≡ Some (held_of s) → meets read.threshold (content_of s) ≡ is_met (frame_of r) (entries_of r) read
state-met r is read s at = ap (λ (c : Content). meets read.threshold c) (state-content r is read.var s at)
