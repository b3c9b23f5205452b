-- The replica of a journal stays within the message format: at its start, and by each entry that code may make.
use Rattle.std.proofs.Common.{◌≡◌, ℕ, ◌+◌, ◌≤◌, ◌<◌, IsTrue, List, [], ◌∷◌, ◌++◌, length, map, None, refl, sym, ap, subst, ◌∙◌, arith}
use Rattle.model_states.specs.Counts.{count_at}
use Rattle.model_states.specs.Content.{Content, least, join_contents, size_of, row_limit}
use Rattle.model_states.specs.Update.{Op, delta}
use Rattle.model_graph.specs.Graph.{Decl, is_source, kind_at}
use Rattle.model_graph.specs.Evaluation.{content_at, first_large}
use Rattle.model_graph.specs.Lawful.{IsDerived, sources_among}
use Rattle.model_graph.proofs.PlaceLaws.{at-set}
use Rattle.model_graph.specs.Message.{Message}
use Rattle.model_wire.specs.Lawful.{IsMessage}
use Rattle.model_world.specs.World.{Peer, updated, delivered}
use Rattle.model_runs.specs.Held.{IsHeld, IsUpdate}
use Rattle.model_runs.proofs.SourceLaws.{update-source}
use Rattle.model_runs.proofs.HeldLaws.{held-fresh, held-updated, held-delivered, held-extended}
use Rattle.model_journal.specs.Entry.{Update, Deliver, Bind, Extend, Entry, Frame}
use Rattle.model_journal.specs.Journal.{graph, vals, val, counts, sources}
use Rattle.model_journal.specs.Legal.{IsLegal}
use Rattle.model_journal.proofs.CleanLaws.{vals-length}
use Rattle.model_core.specs.Peer.{peer_of}
use Rattle.model_core.proofs.SourceLaws.{sources-length, sources-source}
use Rattle.model_core.proofs.PeerLaws.{graph-updated, graph-delivered, graph-bound, graph-extended, peer-fresh, peer-updated, peer-delivered, peer-bound, peer-extended}
use Rattle.model_core.proofs.MessageLaws.{sent-to}

-- the replica of a journal is within the format
abbrev pub IsHeldBy : Frame → List Entry → Type 0
IsHeldBy X h = IsHeld X.nodes (graph X h) (peer_of X h)

-- what the world's step leaves is what the journal leaves
held-step : (X : Frame) (h : List Entry) (g : List Decl) (r : Peer) → graph X h ≡ g → peer_of X h ≡ r → IsHeld X.nodes g r → IsHeldBy X h
held-step X h g r here same held = subst (λ (p : Peer). IsHeld X.nodes (graph X h) p) (sym same) (subst (λ (k : List Decl). IsHeld X.nodes k r) (sym here) held)

pub held-start : (X : Frame) → IsHeldBy X []
held-start X = subst (λ (p : Peer). IsHeld X.nodes X.opening p) (sym (peer-fresh X)) (held-fresh X.nodes X.opening)

pub held-update : (X : Frame) (h : List Entry) → IsLegal X h → IsHeld X.nodes (graph X h) (peer_of X h) → (e : Entry) (y : ℕ) (op : Op) → e.act ≡ Update y op → y < length (graph X h) → IsUpdate X.nodes (graph X h) y op
    → count_at (counts X h) X.replica < 100000 → size_of (join_contents (val X h y) (delta op (val X h y) X.replica (count_at (counts X h) X.replica + 1))) ≤ row_limit
    → IsHeld X.nodes (graph X (h ++ e ∷ [])) (peer_of X (h ++ e ∷ []))
held-update X h legal held e y op is low update room small =
    held-step X (h ++ e ∷ []) (graph X h) (updated X.replica y op (peer_of X h)) (graph-updated X h e y op is) (peer-updated X h legal e y op is low source)
    (held-updated X.nodes X.replica y (graph X h) op (peer_of X h) held legal.member low update room (subst (λ (s : Content). size_of s ≤ row_limit) (sym there) small)) where
      source : IsTrue (is_source (kind_at (graph X h) y))
      source = update-source X.nodes (graph X h) y op update

      there : content_at (updated X.replica y op (peer_of X h)).contents y ≡ join_contents (val X h y) (delta op (val X h y) X.replica (count_at (counts X h) X.replica + 1))
      there =
          at-set (λ (s : Content). s ≡ join_contents (content_at (sources X h) y) (delta op (content_at (sources X h) y) X.replica (count_at (counts X h) X.replica + 1)))
          (sources X h) y (join_contents (content_at (sources X h) y) (delta op (content_at (sources X h) y) X.replica (count_at (counts X h) X.replica + 1))) least y
          (omega (arith, low, sources-length (graph X h) (vals X h) (vals-length X h legal))) (λ _. refl) (λ n. absurd (n refl))
          ∙ ap (λ (s : Content). join_contents s (delta op s X.replica (count_at (counts X h) X.replica + 1))) (sources-source (graph X h) (vals X h) y low source)

pub held-deliver : (X : Frame) (h : List Entry) → IsLegal X h → IsHeld X.nodes (graph X h) (peer_of X h) → (e : Entry) (i : ℕ) (m : Message) → e.act ≡ Deliver i m → IsMessage m → length m.counts ≡ X.nodes
    → ((more : List Decl) × (map (λ s. s.decl) m.sources ++ more ≡ sources_among (graph X h))) → first_large 0 (delivered (graph X h) m (peer_of X h)).contents ≡ None
    → IsHeld X.nodes (graph X (h ++ e ∷ [])) (peer_of X (h ++ e ∷ []))
held-deliver X h legal held e i m is message wide first fits =
    held-step X (h ++ e ∷ []) (graph X h) (delivered (graph X h) m (peer_of X h)) (graph-delivered X h e i m is) (peer-delivered X h legal e i m is)
    (held-delivered X.nodes (graph X h) m (peer_of X h) held (sent-to X.nodes (graph X h) m message wide first) fits)

pub held-bind : (X : Frame) (h : List Entry) → IsLegal X h → IsHeld X.nodes (graph X h) (peer_of X h) → (e : Entry) (y n : ℕ) → e.act ≡ Bind y n → IsDerived (graph X h) y
    → IsHeld X.nodes (graph X (h ++ e ∷ [])) (peer_of X (h ++ e ∷ []))
held-bind X h legal held e y n is d = held-step X (h ++ e ∷ []) (graph X h) (peer_of X h) (graph-bound X h e y n is) (peer-bound X h legal e y n is d) held

pub held-extend : (X : Frame) (h : List Entry) → IsLegal X h → IsHeld X.nodes (graph X h) (peer_of X h) → (e : Entry) (d : Decl) → e.act ≡ Extend d → IsHeld X.nodes (graph X (h ++ e ∷ [])) (peer_of X (h ++ e ∷ []))
held-extend X h legal held e d is =
    held-step X (h ++ e ∷ []) (graph X h ++ d ∷ []) _ (graph-extended X h e d is) (peer-extended X h legal e d is) (held-extended X.nodes (graph X h) d (peer_of X h) held)

pub ruleset helds = (held-start, held-update, held-deliver, held-bind, held-extend)
