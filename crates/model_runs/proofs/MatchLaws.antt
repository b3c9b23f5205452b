-- A journal and a replica of the world that have the same graph, contents and counts, and what each step of both leaves of this.
use Rattle.std.proofs.Common.{◌≡◌, ℕ, ◌+◌, ◌<◌, true, IsTrue, List, [], ◌∷◌, ◌++◌, length, map, slice_set, refl, sym, ap, subst, ◌∙◌, arith}
pub use Rattle.std.proofs.lemmas.List.{append-nil as append-nothing, append_assoc as append-again}
use Rattle.model_states.specs.Counts.{count_at, larger}
use Rattle.model_states.specs.Content.{Content, join_contents}
use Rattle.model_states.specs.Update.{Op, delta}
use Rattle.model_graph.specs.Graph.{Decl, is_source, kind_at}
use Rattle.model_graph.specs.Evaluation.{least_of, content_at}
use Rattle.model_graph.specs.Lawful.{width_at, widths, sources_among}
use Rattle.model_graph.specs.Message.{Message, message_of, sent_from, gained, brought}
use Rattle.model_graph.proofs.WidthLaws.{width-source}
use Rattle.model_graph.proofs.MessageLaws.{sent-among}
use Rattle.model_world.specs.World.{Peer, updated, delivered, extended, message_at}
use Rattle.model_journal.specs.Entry.{Update, Deliver, Extend, Entry, Frame}
use Rattle.model_journal.specs.Journal.{Journal, graph, vals, val, counts}
use Rattle.model_journal.specs.Legal.{IsValid, AreValidSources, IsLegal}
use Rattle.model_journal.proofs.JournalLaws.{journal-push, journal-graph}
use Rattle.model_journal.proofs.StandLaws.{journal-valid}
use Rattle.model_journal.proofs.EntryLaws.{update-vals, update-counts, extend-vals, extend-counts}
use Rattle.model_journal.proofs.MessageLaws.{message-valid}
use Rattle.model_journal.proofs.WidthLaws.{widths-at}
use Rattle.model_runs.specs.Calls.{fed}

-- a journal and a replica of the world have the same
pub record Matches (X : Frame) (h : List Entry) (g : List Decl) (r : Peer) : Type 0 where
  pub graph_is : graph X h ≡ g
  pub contents_are : vals X h ≡ r.contents
  pub counts_are : counts X h ≡ r.counts

-- a message that may come to any node of the world
pub record MayCome (g : List Decl) (nodes : ℕ) (m : Message) : Type 0 where
  pub wide : length m.counts ≡ nodes
  pub others : List Decl
  pub first : map (λ s. s.decl) m.sources ++ others ≡ sources_among g
  pub valid : AreValidSources nodes m.sources

-- a mark that may be bound to its variable
pub record MayBind (g : List Decl) (nodes x : ℕ) (s : Content) : Type 0 where
  pub declared : x < length g
  pub valid : IsTrue (is_source (kind_at g x)) → IsValid nodes (kind_at g x) 1 s

-- ---- one step of one journal

module _ (X : Frame) (h : List Entry) (g : List Decl) (r : Peer) (legal : IsLegal X h) (same : Matches X h g r) where
  -- an update of the node itself
  pub update-matches : (x : ℕ) (op : Op) → x < length g → Matches X (h ++ fed (Update x op) ∷ []) g (updated X.replica x op r)
  update-matches x op low = record {
    graph_is = ap (λ (j : Journal). j.now.graph) (journal-push X h (fed (Update x op))) ∙ same.graph_is;
    contents_are = update-vals X h legal (fed (Update x op)) x op refl (omega (arith, low, ap (λ (c : List Decl). length c) same.graph_is)) ∙ (λ i. slice_set (same.contents_are i) x (join_contents (content_at (same.contents_are i) x) (delta op (content_at (same.contents_are i) x) X.replica (count_at (same.counts_are i) X.replica + 1))));
    counts_are = update-counts X h (fed (Update x op)) x op refl ∙ (λ i. slice_set (same.counts_are i) X.replica (count_at (same.counts_are i) X.replica + 1));
  }

  -- a delivery to it
  pub deliver-matches : (number : ℕ) (m : Message) → Matches X (h ++ fed (Deliver number m) ∷ []) g (delivered g m r)
  deliver-matches number m = record {
    graph_is = ap (λ (j : Journal). j.now.graph) (journal-push X h (fed (Deliver number m))) ∙ same.graph_is;
    contents_are = ap (λ (j : Journal). j.now.contents) (journal-push X h (fed (Deliver number m))) ∙ append-nothing (gained (brought (graph X h) m) 0 (vals X h)) ∙ (λ i. gained (brought (same.graph_is i) m) 0 (same.contents_are i));
    counts_are = ap (λ (j : Journal). j.now.counts) (journal-push X h (fed (Deliver number m))) ∙ ap (λ (cs : List ℕ). larger cs m.counts) same.counts_are;
  }

  -- a declaration
  pub extend-matches : (d : Decl) → Matches X (h ++ fed (Extend d) ∷ []) (g ++ d ∷ []) (extended X.nodes d r)
  extend-matches d = record {
    graph_is = ap (λ (j : Journal). j.now.graph) (journal-push X h (fed (Extend d))) ∙ ap (λ (c : List Decl). c ++ d ∷ []) same.graph_is;
    contents_are = extend-vals X h (fed (Extend d)) d refl ∙ ap (λ (ss : List Content). ss ++ least_of X.nodes d.kind ∷ []) same.contents_are;
    counts_are = extend-counts X h (fed (Extend d)) d refl ∙ same.counts_are;
  }

  -- what is valid at the node
  pub valid-here : (x : ℕ) → x < length g → IsTrue (is_source (kind_at g x)) → IsValid X.nodes (kind_at g x) 1 (content_at r.contents x)
  valid-here x low source =
      let low' : x < length (graph X h) = omega (arith, low, ap (λ (c : List Decl). length c) same.graph_is) in
      let source' : is_source (kind_at (graph X h) x) ≡ true = subst (λ (c : List Decl). IsTrue (is_source (kind_at c x))) (sym same.graph_is) source in
      let one : width_at (widths (graph X h)) x ≡ 1 = widths-at (graph X h) (journal-graph X h legal) x low' ∙ width-source (kind_at (graph X h) x) (widths (graph X h)) source' in
      let there : IsValid X.nodes (kind_at (graph X h) x) (width_at (widths (graph X h)) x) (val X h x) = (journal-valid X h legal).contents x low' in
      subst (λ (w : ℕ). IsValid X.nodes (kind_at g x) w (content_at r.contents x)) one
      (subst (λ (ss : List Content). IsValid X.nodes (kind_at g x) (width_at (widths (graph X h)) x) (content_at ss x)) same.contents_are
      (subst (λ (c : List Decl). IsValid X.nodes (kind_at c x) (width_at (widths (graph X h)) x) (val X h x)) same.graph_is there))

  -- and what it sends may come to every node
  pub sends-well : length r.contents ≡ length g → length r.counts ≡ X.nodes → MayCome g X.nodes (message_at g r)
  sends-well long wide = record {
    wide = wide;
    others = [];
    first = append-nothing (map (λ s. s.decl) (sent_from g r.contents)) ∙ sent-among g r.contents long;
    valid = subst (λ (m : Message). AreValidSources X.nodes m.sources) (λ i. message_of (same.graph_is i) (same.contents_are i) (same.counts_are i)) (message-valid X h 0 legal);
  }
