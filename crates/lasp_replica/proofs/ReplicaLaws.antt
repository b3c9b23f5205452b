-- What is left to know of a replica once its parts are known to be kept.
use Rattle.std.proofs.Common.{◌≡◌, sym, subst}
use Rattle.std.specs.Prelude.{◌≤◌, List, length, take}
use Rattle.std.specs.Arc.{arc_value}
use Rattle.std.specs.List.{AllByRecursion}
use Rattle.model_runs.specs.Held.{IsHeld}
use Rattle.model_journal.specs.Entry as model
use Rattle.model_journal.specs.Entry.{Frame}
use Rattle.model_journal.specs.Legal.{IsLegal}
use Rattle.model_core.specs.Peer.{peer_of}
use Rattle.lasp_replica.specs.Parts.{IsKept}
use Rattle.lasp_replica.specs.declared.replica.Replica.{Replica}
use Rattle.lasp_replica.specs.Replica.{frame_of, entries_of, parts_of, IsReplica, IsSuited}

-- what never changes is as before
pub frame-same : (old new : Replica) → new.opening ≡ old.opening → new.me ≡ old.me → length new.counts ≡ length old.counts → arc_value new.graph ≡ arc_value old.graph → frame_of new ≡ frame_of old
frame-same old new opening me nodes graph i = record { opening = take (opening i) (graph i); replica = me i; nodes = nodes i }

-- a replica whose parts and journal are those of a legal list of entries
pub replica-kept : (X : Frame) (h : List model.Entry) (new : Replica) → frame_of new ≡ X → entries_of new ≡ h → IsKept X h (parts_of new) → IsLegal X h → IsHeld X.nodes (arc_value new.graph) (peer_of X h)
    → new.opening ≤ length (arc_value new.graph) → length new.counts ≤ 8 → AllByRecursion (IsSuited (length new.counts) (arc_value new.graph)) new.journal.items → IsReplica new
replica-kept X h new frame entries kept legal held opened few suited = record {
  kept = subst (λ (Z : Frame). IsKept Z (entries_of new) (parts_of new)) (sym frame) (subst (λ (k : List model.Entry). IsKept X k (parts_of new)) (sym entries) kept);
  legal = subst (λ (Z : Frame). IsLegal Z (entries_of new)) (sym frame) (subst (λ (k : List model.Entry). IsLegal X k) (sym entries) legal);
  held = subst (λ (Z : Frame). IsHeld Z.nodes (arc_value new.graph) (peer_of Z (entries_of new))) (sym frame) (subst (λ (k : List model.Entry). IsHeld X.nodes (arc_value new.graph) (peer_of X k)) (sym entries) held);
  opened = opened;
  few = few;
  suited = suited;
}
