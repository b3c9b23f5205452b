-- What is known of a variable, and so isn't asked for again, is known wherever the entries go on.
use Rattle.std.proofs.Common.{◌≡◌, ◌∙◌, ◌<◌, ℕ, Bool, true, false, IsTrue, List, ◌++◌, length, refl, sym, ap, subst}
use Rattle.std.specs.Prelude.{◌&&◌}
use Rattle.model_states.specs.Content.{Content, IsContentAtMost}
use Rattle.model_states.specs.Threshold.{Threshold, AtLeast, Above, Count, Added, Removed, meets}
use Rattle.model_states.specs.Update.{Op}
use Rattle.model_states.proofs.ContentLaws.{at_most-chain, at_most-from-test, test-from-at_most}
use Rattle.model_graph.specs.Evaluation.{content_at}
use Rattle.model_graph.specs.Graph.{Decl, is_source, kind_at}
use Rattle.model_world.specs.World.{Peer}
use Rattle.model_journal.specs.Entry.{Entry, Frame}
use Rattle.model_journal.specs.Journal.{counts, graph, val, vals}
use Rattle.model_journal.proofs.JournalLaws.{vals-grow}
use Rattle.model_core.specs.Core.{Core}
use Rattle.model_core.specs.Known.{BringsNothing, HasLeast}
use Rattle.model_core.specs.Peer.{peer_of}
use Rattle.model_core.proofs.SourceLaws.{sources-source}
use Rattle.lasp_histlock.specs.Names.{LockId}
use Rattle.lasp_store.specs.Turn.{Knows, frame_in, frame_of, graph_seen, HasBegun}
use Rattle.lasp_store.specs.Settled.{KnowsOwn}
use Rattle.lasp_store.proofs.SettleLaws.{begun-graph, begun-peer}

least-grows : (w : Threshold) (s t : Content) → IsContentAtMost s t → HasLeast w s → HasLeast w t
least-grows (AtLeast shape b) s t low has = test-from-at_most b t (at_most-chain b s t (at_most-from-test b s has) low)
least-grows (Above shape b) s t low has = test-from-at_most b t (at_most-chain b s t (at_most-from-test b s has) low)
least-grows (Count k) s t low has = tt
least-grows (Added vs) s t low has = tt
least-grows (Removed vs) s t low has = tt

-- what a threshold asks for at least is held behind more entries
pub least-later : (X : Frame) (h more : List Entry) (x : ℕ) (w : Threshold) → HasLeast w (val X h x) → HasLeast w (val X (h ++ more) x)
least-later X h more x w = least-grows w (val X h x) (val X (h ++ more) x) (vals-grow X h more x)

first-of : (a b : Bool) → IsTrue (a && b) → IsTrue a
first-of true b both = refl
first-of false b both = both

-- and it is held where the threshold is met
pub least-met : (w : Threshold) (s : Content) → IsTrue (meets w s) → HasLeast w s
least-met (AtLeast shape b) s met = met
least-met (Above shape b) s met = first-of _ _ met
least-met (Count k) s met = tt
least-met (Added vs) s met = tt
least-met (Removed vs) s met = tt

-- an update that brings nothing to a source at what the feed has seen does so at the core that it takes out
pub begun-idle : (store : LockId) (old new : Knows) (c : Core) (x : ℕ) (op : Op) → KnowsOwn old → KnowsOwn new → old.number ≡ 0 → HasBegun store old new c → (x < length (graph_seen old)) × IsTrue (is_source (kind_at (graph_seen old) x))
    → BringsNothing (content_at (peer_of (frame_of old) old.seen).contents x) (peer_of (frame_of old) old.seen).counts (frame_of old).replica op → BringsNothing (val c.frame c.entries x) (counts c.frame c.entries) c.frame.replica op
begun-idle store old new c x op own-old own-new first b source nothing =
    let there : (x < length (graph c.frame c.entries)) × IsTrue (is_source (kind_at (graph c.frame c.entries) x)) = subst (λ (g : List Decl). (x < length g) × IsTrue (is_source (kind_at g x))) (sym found) source in
    subst (λ (s : Content). BringsNothing s (counts c.frame c.entries) c.frame.replica op) (sources-source (graph c.frame c.entries) (vals c.frame c.entries) x there.0 there.1)
    (subst (λ (z : Peer × Frame). BringsNothing (content_at z.0.contents x) z.0.counts z.1.replica op) (λ i. (sym (begun-peer store old new c own-old own-new first b) i, sym same i)) nothing) where
      same : c.frame ≡ frame_of old
      same = sym (ap frame_in b.turn.frame) ∙ ap (λ (q : Knows). frame_of q) b.pass

      found : graph c.frame c.entries ≡ graph_seen old
      found = (λ i. graph (sym (ap frame_in b.turn.frame) i) (sym b.turn.seen i)) ∙ begun-graph store old new c own-old own-new first b
