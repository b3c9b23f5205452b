-- A message that stands for another one at what the feed has seen does so at the core that it takes out.
use Rattle.std.proofs.Common.{◌≡◌, ◌∙◌, List, sym, ap, subst}
use Rattle.model_states.specs.Content.{Content, join_contents}
use Rattle.model_graph.specs.Graph.{Decl}
use Rattle.model_graph.specs.Message.{Message, source_number, sent_at}
use Rattle.model_world.specs.World.{Peer}
use Rattle.model_journal.specs.Entry.{Entry, Frame}
use Rattle.model_journal.specs.Journal.{graph, vals}
use Rattle.model_core.specs.Core.{Core}
use Rattle.model_core.specs.Peer.{peer_of}
use Rattle.model_core.proofs.SourceLaws.{sources-source}
use Rattle.model_runs.specs.Part.{BringsAsMuch}
use Rattle.lasp_histlock.specs.Names.{LockId}
use Rattle.lasp_store.specs.Turn.{Knows, frame_in, frame_of, graph_seen, HasBegun}
use Rattle.lasp_store.specs.Settled.{KnowsOwn}
use Rattle.lasp_store.proofs.SettleLaws.{begun-graph, begun-peer}

-- what brings as much to the sources brings as much to all contents
brings-all : (X : Frame) (h : List Entry) (m part : Message) → BringsAsMuch (graph X h) (peer_of X h).contents m part → BringsAsMuch (graph X h) (vals X h) m part
brings-all X h m part much = record {
  wide = much.wide;
  begins = much.begins;
  brings = λ x low source.
      subst (λ (s : Content). join_contents s (sent_at part.sources (source_number (graph X h) x)) ≡ join_contents s (sent_at m.sources (source_number (graph X h) x))) (sources-source (graph X h) (vals X h) x low source) (much.brings x low source);
}

pub begun-brings : (store : LockId) (old new : Knows) (c : Core) (m part : Message) → KnowsOwn old → KnowsOwn new → old.number ≡ 0 → HasBegun store old new c → BringsAsMuch (graph_seen old) (peer_of (frame_of old) old.seen).contents m part
    → BringsAsMuch (graph c.frame c.entries) (vals c.frame c.entries) m part
begun-brings store old new c m part own-old own-new first b much =
    brings-all c.frame c.entries m part (subst (λ (z : List Decl × Peer). BringsAsMuch z.0 z.1.contents m part) (λ i. (sym found i, sym (begun-peer store old new c own-old own-new first b) i)) much) where
      found : graph c.frame c.entries ≡ graph_seen old
      found = (λ i. graph (sym (ap frame_in b.turn.frame) i) (sym b.turn.seen i)) ∙ begun-graph store old new c own-old own-new first b
