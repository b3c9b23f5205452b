-- A replica's peer in the world, entry by entry: each entry changes it as the world's step of the same name does.
use Rattle.std.proofs.Common.{◌≡◌, ℕ, ◌+◌, ◌<◌, IsTrue, List, [], ◌∷◌, ◌++◌, length, slice_set, sym, ap, ◌∙◌, append-nil}
use Rattle.model_states.specs.Counts.{count_at}
use Rattle.model_states.specs.Content.{Content, join_contents}
use Rattle.model_states.specs.Update.{Op, delta}
use Rattle.model_graph.specs.Graph.{Decl, is_source, kind_at}
use Rattle.model_graph.specs.Evaluation.{least_of, content_at}
use Rattle.model_graph.specs.Lawful.{IsDerived}
use Rattle.model_graph.specs.Message.{Sent, Message, brought, gained}
use Rattle.model_world.specs.World.{fresh_peer, updated, delivered, extended, message_at}
use Rattle.model_journal.specs.Entry.{Update, Deliver, Bind, Extend, Entry, Frame}
use Rattle.model_journal.specs.Journal.{Snapshot, graph, vals, val, counts, sources_from, sources}
use Rattle.model_journal.specs.Legal.{IsLegal}
use Rattle.model_journal.specs.Message.{message}
use Rattle.model_journal.proofs.JournalLaws.{counts-length}
use Rattle.model_journal.proofs.CleanLaws.{vals-length}
use Rattle.model_journal.proofs.EntryLaws.{update-vals, update-counts, bind-vals, bind-counts, deliver-counts, extend-vals, extend-counts, pushed}
use Rattle.model_core.specs.Peer.{peer_of}
use Rattle.model_core.proofs.SourceLaws.{sources-least, sources-source, sources-set, sources-unset, sources-gained, sources-push, sources-sent}

-- ---- the graph

pub graph-updated : (X : Frame) (h : List Entry) (e : Entry) (y : ℕ) (op : Op) → e.act ≡ Update y op → graph X (h ++ e ∷ []) ≡ graph X h
graph-updated X h e y op is = ap (λ (s : Snapshot). s.graph) (pushed X h e (Update y op) is)

pub graph-delivered : (X : Frame) (h : List Entry) (e : Entry) (i : ℕ) (m : Message) → e.act ≡ Deliver i m → graph X (h ++ e ∷ []) ≡ graph X h
graph-delivered X h e i m is = ap (λ (s : Snapshot). s.graph) (pushed X h e (Deliver i m) is)

pub graph-bound : (X : Frame) (h : List Entry) (e : Entry) (y n : ℕ) → e.act ≡ Bind y n → graph X (h ++ e ∷ []) ≡ graph X h
graph-bound X h e y n is = ap (λ (s : Snapshot). s.graph) (pushed X h e (Bind y n) is)

pub graph-extended : (X : Frame) (h : List Entry) (e : Entry) (d : Decl) → e.act ≡ Extend d → graph X (h ++ e ∷ []) ≡ graph X h ++ d ∷ []
graph-extended X h e d is = ap (λ (s : Snapshot). s.graph) (pushed X h e (Extend d) is)

-- ---- peers

pub peer-fresh : (X : Frame) → peer_of X [] ≡ fresh_peer X.opening X.nodes
peer-fresh X = λ i. record { contents = sources-least X.nodes X.opening i; counts = counts X [] }

pub peer-updated : (X : Frame) (h : List Entry) → IsLegal X h → (e : Entry) (y : ℕ) (op : Op) → e.act ≡ Update y op → y < length (graph X h) → IsTrue (is_source (kind_at (graph X h) y))
    → peer_of X (h ++ e ∷ []) ≡ updated X.replica y op (peer_of X h)
peer-updated X h legal e y op is low source = λ i. record { contents = contents i; counts = update-counts X h e y op is i } where
  same : val X h y ≡ content_at (sources X h) y
  same = sym (sources-source (graph X h) (vals X h) y low source)

  contents : sources X (h ++ e ∷ []) ≡ slice_set (sources X h) y (join_contents (content_at (sources X h) y) (delta op (content_at (sources X h) y) X.replica (count_at (counts X h) X.replica + 1)))
  contents =
      (λ i. sources_from (graph-updated X h e y op is i) (update-vals X h legal e y op is low i))
      ∙ sources-set (graph X h) (vals X h) y (join_contents (val X h y) (delta op (val X h y) X.replica (count_at (counts X h) X.replica + 1))) low source
      ∙ ap (λ (s : Content). slice_set (sources X h) y (join_contents s (delta op s X.replica (count_at (counts X h) X.replica + 1)))) same

pub peer-delivered : (X : Frame) (h : List Entry) → IsLegal X h → (e : Entry) (i : ℕ) (m : Message) → e.act ≡ Deliver i m → peer_of X (h ++ e ∷ []) ≡ delivered (graph X h) m (peer_of X h)
peer-delivered X h legal e i m is = λ j. record { contents = contents j; counts = deliver-counts X h e i m is j } where
  contents : sources X (h ++ e ∷ []) ≡ gained (brought (graph X h) m) 0 (sources X h)
  contents =
      ap (λ (s : Snapshot). sources_from s.graph s.contents) (pushed X h e (Deliver i m) is)
      ∙ ap (λ (ss : List Content). sources_from (graph X h) ss) (append-nil (gained (brought (graph X h) m) 0 (vals X h)))
      ∙ sources-gained (graph X h) m (vals X h) (vals-length X h legal)

pub peer-bound : (X : Frame) (h : List Entry) → IsLegal X h → (e : Entry) (y n : ℕ) → e.act ≡ Bind y n → IsDerived (graph X h) y → peer_of X (h ++ e ∷ []) ≡ peer_of X h
peer-bound X h legal e y n is d = λ i. record { contents = contents i; counts = bind-counts X h e y n is i } where
  contents : sources X (h ++ e ∷ []) ≡ sources X h
  contents =
      ap (λ (s : Snapshot). sources_from s.graph s.contents) (pushed X h e (Bind y n) is)
      ∙ ap (λ (ss : List Content). sources_from (graph X h) ss) (sym (ap (λ (s : Snapshot). s.contents) (pushed X h e (Bind y n) is)) ∙ bind-vals X h legal e y n is d.declared)
      ∙ sources-unset (graph X h) (vals X h) y _ d.declared d.process

pub peer-extended : (X : Frame) (h : List Entry) → IsLegal X h → (e : Entry) (d : Decl) → e.act ≡ Extend d → peer_of X (h ++ e ∷ []) ≡ extended X.nodes d (peer_of X h)
peer-extended X h legal e d is = λ i. record { contents = contents i; counts = extend-counts X h e d is i } where
  contents : sources X (h ++ e ∷ []) ≡ sources X h ++ least_of X.nodes d.kind ∷ []
  contents =
      (λ i. sources_from (graph-extended X h e d is i) (extend-vals X h e d is i))
      ∙ sources-push X.nodes (graph X h) d (vals X h) (vals-length X h legal)

-- what a replica sends is its peer's message
pub peer-message : (X : Frame) (h : List Entry) → message X h ≡ message_at (graph X h) (peer_of X h)
peer-message X h = ap (λ (sent : List Sent). record { counts = counts X h; sources = sent }) (sym (sources-sent (graph X h) (vals X h)))

pub ruleset peers = (peer-fresh, peer-updated, peer-delivered, peer-bound, peer-extended, peer-message)

pub ruleset graphs = (graph-updated, graph-delivered, graph-bound, graph-extended, counts-length)
