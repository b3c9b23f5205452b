-- Nodes are made of feeds, and their feeds are given back.
use Rattle.std.proofs.Common.{◌≡◌, List, [], ◌++◌, map, sym, ap, subst, ◌∙◌}
use Rattle.std.specs.Prelude.{Some, None, slice_get, slice_index_or}
use Rattle.model_graph.specs.Graph.{Decl}
use Rattle.model_journal.specs.Entry.{Entry}
use Rattle.model_world.specs.Command.{Script}
use Rattle.lasp_drive.specs.Node.{NodeView, IsSettled, AreSettled}
use Rattle.lasp_drive.specs.Nodes.{calls_of, peers_of}
use Rattle.lasp_drive.proofs.NodeLaws.{mapped-at}
use Rattle.lasp_store.specs.Turn.{Knows}
use Rattle.lasp_store_node.specs.View.{Seen, seen, node_seen, place_of}
use Rattle.lasp_threads.specs.Ran.{HaveEnded, HaveBegun}
use Rattle.lasp_threads.specs.Spots.{feed_seen, nodes_seen, unsent, feeds_of}
use Rattle.lasp_threads.proofs.ListLaws.{map-twice, mapped-from}

-- they are as what their feeds have seen
pub unsent-seen : (feeds : List Knows) → map node_seen (unsent feeds) ≡ nodes_seen feeds
unsent-seen feeds = map-twice (λ (f : Knows). seen f None) node_seen feeds

-- the feeds that are given back are where those were of which the nodes were made
pub given-places : (feeds : List Knows) (made came : List Seen) (new : List Knows) → made ≡ unsent feeds → map (λ (n : Seen). place_of n.feed) came ≡ map (λ (n : Seen). place_of n.feed) made → new ≡ feeds_of came → map place_of new ≡ map place_of feeds
given-places feeds made came new is placed given =
    ap (map place_of) given ∙ map-twice (λ (n : Seen). n.feed) place_of came ∙ placed
    ∙ ap (map (λ (n : Seen). place_of n.feed)) is ∙ map-twice (λ (f : Knows). seen f None) (λ (n : Seen). place_of n.feed) feeds

-- of the feeds of nodes is told what is told of the nodes, but for what they last sent
module _ (nodes : List Seen) where
  views : nodes_seen (feeds_of nodes) ≡ map (λ (n : Seen). feed_seen n.feed) nodes
  views = map-twice (λ (n : Seen). n.feed) feed_seen nodes

  given-calls : calls_of (nodes_seen (feeds_of nodes)) ≡ calls_of (map node_seen nodes)
  given-calls = ap calls_of views ∙ map-twice (λ (n : Seen). feed_seen n.feed) (λ (n : NodeView). n.calls) nodes ∙ sym (map-twice node_seen (λ (n : NodeView). n.calls) nodes)

  given-peers : peers_of (nodes_seen (feeds_of nodes)) ≡ peers_of (map node_seen nodes)
  given-peers = ap peers_of views ∙ map-twice (λ (n : Seen). feed_seen n.feed) (λ (n : NodeView). n.peer) nodes ∙ sym (map-twice node_seen (λ (n : NodeView). n.peer) nodes)

  given-settled : AreSettled (map node_seen nodes) → AreSettled (nodes_seen (feeds_of nodes))
  given-settled settled p n at =
      let node = mapped-from (λ (n : Seen). feed_seen n.feed) nodes p n (subst (λ (l : List NodeView). slice_get l p ≡ Some n) views at) in
      subst IsSettled (sym node.2) (settled p (node_seen node.0) (mapped-at node_seen nodes p node.0 node.1))

  pub given-ended : (g : List Decl) (script : Script) → HaveEnded g script (map node_seen nodes) → HaveEnded g script (nodes_seen (feeds_of nodes))
  given-ended g script ran = record {
    calls = λ p low. ap (λ (all : List (List Entry)). slice_index_or all p []) given-calls ∙ ran.calls p low;
    peers = λ run is. given-peers ∙ ran.peers run is;
    settled = given-settled ran.settled;
  }

  pub given-begun : (g : List Decl) (script : Script) → HaveBegun g script (map node_seen nodes) → HaveBegun g script (nodes_seen (feeds_of nodes))
  given-begun g script begun p low =
      let part = begun p low in
      (part.0, ap (λ (all : List (List Entry)). slice_index_or all p [] ++ part.0) given-calls ∙ part.1)
