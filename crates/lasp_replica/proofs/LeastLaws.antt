-- What a replica is to which nothing has happened.
use Rattle.std.proofs.Common.{ℕ, ◌≡◌, ◌+◌, ◌≤◌, ◌<◌, refl, sym, ap, subst, ◌∙◌, arith}
use Rattle.std.specs.Prelude.{List, [], ◌∷◌, ◌++◌, length, map, replicate, take}
use Rattle.std.specs.Arc.{arc_value}
use Rattle.std.proofs.Math.Seq.{take-length}
use Rattle.std.proofs.lemmas.List.{replicate_more}
use Rattle.model_states.specs.Counts.{zeros}
use Rattle.model_states.proofs.CountLaws.{length-zeros}
use Rattle.model_graph.specs.Graph.{Decl}
use Rattle.model_readings.specs.Lawful as readings
use Rattle.model_journal.specs.Entry.{Frame}
use Rattle.model_core.proofs.GraphLaws.{graph-follows}
use Rattle.model_core.proofs.LegalLaws.{legal-start}
use Rattle.model_core.proofs.HeldLaws.{held-start}
use Rattle.model_runs.specs.Held.{IsHeld}
use Rattle.model_core.specs.Peer.{peer_of}
use Rattle.lasp_replica.specs.History.{no_history}
use Rattle.lasp_replica.specs.Parts.{Parts, IsKept, fresh_state, fresh_base}
use Rattle.lasp_replica.proofs.DeclareLaws.{kept-fresh}
use Rattle.lasp_replica.specs.declared.replica.Replica.{Replica}
use Rattle.lasp_replica.specs.Replica.{frame_of, entries_of, parts_of, told, jobs_of, seen_process, IsReplica}
use Rattle.lasp_replica.proofs.ReplicaLaws.{replica-kept}
use Rattle.lasp_replica.proofs.SuitLaws.{suited-none}

-- ---- lists of one value

-- one more of the same
pub push-replicate : {X : Type 0} (xs : List X) (n : ℕ) (x y : X) → xs ≡ replicate n x → y ≡ x → xs ++ y ∷ [] ≡ replicate (n + 1) x
push-replicate xs n x y all same =
    ap (λ (zs : List _). zs ++ y ∷ []) all ∙ ap (λ z. replicate n x ++ z ∷ []) same ∙ replicate_more n x

pub ruleset pushes = (push-replicate)

-- the same for each
pub map-same : {X Y : Type 0} (xs : List X) (y : Y) → map (λ x. y) xs ≡ replicate (length xs) y
map-same [] y = refl
map-same (x ∷ xs) y = ap (λ (ys : List _). y ∷ ys) (map-same xs y)

-- ---- a fresh replica

-- what a replica keeps to which nothing has happened
pub record IsFresh (g : List Decl) (me nodes : ℕ) (r : Replica) : Type 0 where
  pub graph : arc_value r.graph ≡ g
  pub opening : r.opening ≡ length g
  pub me_is : r.me ≡ me
  pub counts : r.counts ≡ zeros nodes
  pub states : r.states ≡ map (fresh_state nodes) g
  pub histories : map told r.histories.items ≡ map (λ d. no_history) g
  pub bases : map seen_process r.processes.items ≡ map (λ d. fresh_base d.kind) g
  pub busy : map jobs_of r.processes.items ≡ map (λ d. 0) g
  pub entries : entries_of r ≡ []

pub fresh-frame : (g : List Decl) (me nodes : ℕ) (r : Replica) → IsFresh g me nodes r → frame_of r ≡ record { opening = g; replica = me; nodes = nodes }
fresh-frame g me nodes r h i = record { opening = opening i; replica = h.me_is i; nodes = many i } where
  opening : take r.opening (arc_value r.graph) ≡ g
  opening = (λ i. take (h.opening i) (h.graph i)) ∙ take-length g

  many : length r.counts ≡ nodes
  many = ap (λ (ns : List ℕ). length ns) h.counts ∙ length-zeros nodes

pub fresh-replica : (g : List Decl) (me nodes : ℕ) (r : Replica) → readings.IsGraph g → me < nodes → nodes ≤ 8 → IsFresh g me nodes r → IsReplica r
fresh-replica g me nodes r lawful member few h =
    replica-kept X [] r (fresh-frame g me nodes r h) h.entries kept (legal-start X lawful member) held opened counted (suited-none (length r.counts) (arc_value r.graph) r.journal.items h.entries) where
      X : Frame
      X = record { opening = g; replica = me; nodes = nodes }

      parts : parts_of r ≡ record { graph = g; counts = zeros nodes; states = map (fresh_state nodes) g; histories = map (λ d. no_history) g; bases = map (λ d. fresh_base d.kind) g }
      parts i = record { graph = h.graph i; counts = h.counts i; states = h.states i; histories = h.histories i; bases = h.bases i }

      kept : IsKept X [] (parts_of r)
      kept = subst (λ (p : Parts). IsKept X [] p) (sym parts) (kept-fresh X (graph-follows g lawful) member)

      held : IsHeld nodes (arc_value r.graph) (peer_of X [])
      held = subst (λ (ds : List Decl). IsHeld nodes ds (peer_of X [])) (sym h.graph) (held-start X)

      opened : r.opening ≤ length (arc_value r.graph)
      opened = omega (arith, h.opening, ap (λ (ds : List Decl). length ds) h.graph)

      counted : length r.counts ≤ 8
      counted = omega (arith, few, ap (λ (ns : List ℕ). length ns) h.counts, length-zeros nodes)
