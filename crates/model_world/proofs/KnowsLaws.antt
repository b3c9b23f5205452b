-- Everybody holds what is known of the counts, by any deltas that join in as the updates did: kept by each act.
use Rattle.std.proofs.Common.{◌≡◌, ℕ, zero, suc, ◌+◌, ◌≤◌, ◌<◌, ◌⊎◌, inl, inr, IsTrue, List, [], ◌∷◌, ◌++◌, length, map, slice_set, replicate, refl, sym, ap, subst, ◌∙◌, arith}
use Rattle.model_states.specs.Counts.{count_at, larger, zeros, AreCountsAtMost}
use Rattle.model_states.specs.Content.{Content, least, join_contents, IsOrdered}
use Rattle.model_states.proofs.CountLaws.{count_at-zeros, length-zeros, count_at-larger, larger-commutative, larger-at_most}
use Rattle.model_states.proofs.ContentLaws.{join-nothing, ordered-join}
use Rattle.model_graph.specs.Graph.{Decl, is_source, no_decl, kind_at}
use Rattle.model_graph.specs.Evaluation.{content_at, least_of}
use Rattle.model_graph.proofs.PlaceLaws.{below-or-not, at-past, at-push, at-set, at-map-low, at-replicate, length-replicate, set-length, map-length}
use Rattle.model_graph.proofs.LeastLaws.{least_of-ordered}
use Rattle.model_graph.specs.Message.{Message, source_number, sent_at, sent_from}
use Rattle.model_world.specs.World.{Peer, fresh_peer, no_peer, peer_at, delivered, extended, message_at, no_message, sent_number}
use Rattle.model_world.specs.Delta.{Delta, deltas_at, first_deltas, brought_to, join_all}
use Rattle.model_world.specs.Holds.{Holds, Carries}
use Rattle.model_world.specs.Known.{Each, IsOfSource, IsKnown}
use Rattle.model_world.proofs.MeasureLaws.{same_from_measures, measure-all, total, total-larger, each-push}
use Rattle.model_world.proofs.VariableLaws.{known-ordered}
use Rattle.model_world.proofs.UpdateLaws.{holds-kept, carries-kept, own-holds, own-all}
use Rattle.model_world.proofs.HoldLaws.{sends-known, takes-known, extends-known, carries-longer, sources-longer}

-- ---- the beginning

pub first-none : (all : List (List Delta)) → first_deltas all [] ≡ []
first-none [] = refl
first-none (deltas ∷ all) = refl

pub first-empty : (n : ℕ) (cs : List ℕ) → first_deltas (replicate n []) cs ≡ []
first-empty zero cs = refl
first-empty (suc n) [] = refl
first-empty (suc n) (zero ∷ cs) = first-empty n cs
first-empty (suc n) (suc c ∷ cs) = first-empty n cs

pub each-empty : (P : Delta → Type 0) (n : ℕ) → Each P (replicate n [])
each-empty P zero = tt
each-empty P (suc n) = (tt, each-empty P n)

sent-none : (g : List Decl) → sent_from g [] ≡ []
sent-none [] = refl
sent-none (d ∷ g) = refl

-- a message that has nothing carries what is known of no counts
carries-nothing : (g : List Decl) (nodes : ℕ) (all : List (List Delta)) → Carries g nodes all no_message
carries-nothing g nodes all = record {
  narrow = omega arith;
  few = omega arith;
  made = λ q. omega arith;
  knows = λ x low source. join-nothing (least_of nodes (kind_at g x)) (least_of-ordered nodes (kind_at g x))
      ∙ ap (λ (ds : List Delta). join_all (least_of nodes (kind_at g x)) (brought_to x ds)) (sym (first-none all));
}

pub no-deltas : (n q : ℕ) → length (deltas_at (replicate n []) q) ≡ 0
no-deltas zero q = refl
no-deltas (suc n) zero = refl
no-deltas (suc n) (suc q) = no-deltas n q

pub known-begin : (g : List Decl) (nodes : ℕ) → IsKnown nodes g (replicate nodes (fresh_peer g nodes)) [] (replicate nodes [])
known-begin g nodes = record {
  many = length-replicate nodes (fresh_peer g nodes);
  logs = length-replicate nodes [];
  sources = each-empty (IsOfSource g) nodes;
  holds = λ p low. subst (λ (r : Peer). Holds g nodes (replicate nodes []) r.contents r.counts) (sym (at-replicate nodes p (fresh_peer g nodes) no_peer low)) fresh;
  own = λ p low. ap (λ (r : Peer). count_at r.counts p) (at-replicate nodes p (fresh_peer g nodes) no_peer low) ∙ count_at-zeros nodes p ∙ sym (no-deltas nodes p);
  carries = λ i. carries-nothing g nodes (replicate nodes []);
} where
  fresh : Holds g nodes (replicate nodes []) (fresh_peer g nodes).contents (fresh_peer g nodes).counts
  fresh = record {
    long = map-length (λ d. least_of nodes d.kind) g;
    wide = length-zeros nodes;
    made = λ q. omega (arith, count_at-zeros nodes q);
    knows = λ x low. at-map-low (λ (d : Decl). least_of nodes d.kind) g x no_decl least low
        ∙ ap (λ (ds : List Delta). join_all (least_of nodes (kind_at g x)) (brought_to x ds)) (sym (first-empty nodes (zeros nodes)));
  }

-- ---- the acts

module _ (nodes : ℕ) (g : List Decl) (peers : List Peer) (sent : List Message) (all : List (List Delta)) (s : IsKnown nodes g peers sent all) where
  -- an update of replica p that brought d
  abbrev pub told_more : ℕ → Delta → List (List Delta)
  told_more p d = slice_set all p (deltas_at all p ++ d ∷ [])

  abbrev pub brings : ℕ → Delta → Peer
  brings p d = record {
    contents = slice_set (peer_at peers p).contents d.var (join_contents (content_at (peer_at peers p).contents d.var) d.content);
    counts = slice_set (peer_at peers p).counts p (count_at (peer_at peers p).counts p + 1);
  }

  pub known-update : (p : ℕ) (d : Delta) → p < nodes → IsOfSource g d → IsKnown nodes g (slice_set peers p (brings p d)) sent (told_more p d)
  known-update p d member source = record {
    many = set-length peers p after ∙ s.many;
    logs = set-length all p (deltas_at all p ++ d ∷ []) ∙ s.logs;
    sources = each-push (IsOfSource g) p all d s.sources source;
    holds = λ q in_range. at-set (λ (r : Peer). Holds g nodes more r.contents r.counts) peers p after no_peer q (omega (arith, in_range, s.many))
        (λ _. own-holds g nodes all p d r.contents r.counts (s.holds p member) few member (s.own p member))
        (λ _. holds-kept g nodes all p d (peer_at peers q).contents (peer_at peers q).counts (s.holds q in_range));
    own = λ q in_range. at-set (λ (r : Peer). count_at r.counts q ≡ length (deltas_at more q)) peers p after no_peer q (omega (arith, in_range, s.many))
        (λ e. subst (λ (i : ℕ). count_at after.counts i ≡ length (deltas_at more i)) (sym e) (own-all g nodes all p d r.contents r.counts (s.holds p member) few member (s.own p member)))
        (λ n. s.own q in_range ∙ at-set (λ (ds : List Delta). length (deltas_at all q) ≡ length ds) all p (deltas_at all p ++ d ∷ []) [] q (omega (arith, in_range, s.logs)) (λ e. absurd (n e)) (λ _. refl));
    carries = λ i. carries-kept g nodes all p d (sent_number sent i) (s.carries i);
  } where
    r : Peer
    r = peer_at peers p

    more : List (List Delta)
    more = told_more p d

    after : Peer
    after = brings p d

    few : p < length all
    few = omega (arith, member, s.logs)

  pub known-post : (p : ℕ) → IsKnown nodes g peers (sent ++ message_at g (peer_at peers p) ∷ []) all
  known-post p = record {
    many = s.many;
    logs = s.logs;
    sources = s.sources;
    holds = s.holds;
    own = s.own;
    carries = at-push (Carries g nodes all) sent (message_at g (peer_at peers p)) no_message s.carries (choose (below-or-not p nodes));
  } where
    choose : (p < nodes) ⊎ (nodes ≤ p) → Carries g nodes all (message_at g (peer_at peers p))
    choose (inl h) = sends-known g nodes all (peer_at peers p).contents (peer_at peers p).counts (s.holds p h)
    choose (inr h) =
        subst (λ (r : Peer). Carries g nodes all (message_at g r)) (sym (at-past peers p no_peer (omega (arith, h, s.many))))
        (subst (Carries g nodes all) (λ i. record { counts = []; sources = sym (sent-none g) i }) (carries-nothing g nodes all))

  pub known-take : (p i : ℕ) → IsKnown nodes g (slice_set peers p (delivered g (sent_number sent i) (peer_at peers p))) sent all
  known-take p i = record {
    many = set-length peers p after ∙ s.many;
    logs = s.logs;
    sources = s.sources;
    holds = λ q in_range. at-set (λ (r : Peer). Holds g nodes all r.contents r.counts) peers p after no_peer q (omega (arith, in_range, s.many))
        (λ e. takes-known g nodes all (peer_at peers p).contents (peer_at peers p).counts (sent_number sent i) s.sources (s.holds p (omega (arith, in_range, e))) (s.carries i))
        (λ _. s.holds q in_range);
    own = λ q in_range. at-set (λ (r : Peer). count_at r.counts q ≡ length (deltas_at all q)) peers p after no_peer q (omega (arith, in_range, s.many))
        (λ e. omega (arith, count_at-larger (peer_at peers p).counts (sent_number sent i).counts q, (s.carries i).made q, s.own q in_range, ap (λ (n : ℕ). count_at (peer_at peers n).counts q) e))
        (λ _. s.own q in_range);
    carries = s.carries;
  } where
    after : Peer
    after = delivered g (sent_number sent i) (peer_at peers p)

  pub known-extend : (d : Decl) → IsKnown nodes (g ++ d ∷ []) (map (extended (length peers) d) peers) sent all
  known-extend d = record {
    many = map-length (extended (length peers) d) peers ∙ s.many;
    logs = s.logs;
    sources = sources-longer g nodes all d s.sources;
    holds = λ p low. subst (λ (r : Peer). Holds (g ++ d ∷ []) nodes all r.contents r.counts) (sym (at p low))
        (subst (λ (n : ℕ). Holds (g ++ d ∷ []) nodes all ((peer_at peers p).contents ++ least_of n d.kind ∷ []) (peer_at peers p).counts) (sym s.many)
        (extends-known g nodes all d s.sources (peer_at peers p).contents (peer_at peers p).counts (s.holds p low)));
    own = λ p low. ap (λ (r : Peer). count_at r.counts p) (at p low) ∙ s.own p low;
    carries = λ i. carries-longer g nodes all d s.sources (sent_number sent i) (s.carries i);
  } where
    at : (p : ℕ) → p < nodes → peer_at (map (extended (length peers) d) peers) p ≡ extended (length peers) d (peer_at peers p)
    at p low = at-map-low (extended (length peers) d) peers p no_peer no_peer (omega (arith, low, s.many))

-- ---- messages that bring nothing

module _ (nodes : ℕ) (g : List Decl) (peers : List Peer) (sent : List Message) (all : List (List Delta)) (s : IsKnown nodes g peers sent all) where
  abbrev mine : ℕ → Peer
  mine p = peer_at peers p

  abbrev came : ℕ → Message
  came i = sent_number sent i

  -- where the message's counts are all counted, it brings nothing
  pub known-covered : (p i x : ℕ) → p < nodes → x < length g → IsTrue (is_source (kind_at g x)) → AreCountsAtMost (came i).counts (mine p).counts
      → join_contents (content_at (mine p).contents x) (sent_at (came i).sources (source_number g x)) ≡ content_at (mine p).contents x
  known-covered p i x member low source counted =
      same_from_measures (join_contents here there) here (ordered-join here there) (subst IsOrdered (sym ((s.holds p member).knows x low)) (known-ordered g nodes all (mine p).counts x))
      (λ μ measure. omega (
        arith,
        measure here there,
        measure l there,
        ap μ ((s.holds p member).knows x low),
        ap μ ((s.carries i).knows x low source),
        measure-all μ measure l (brought_to x (first_deltas all (mine p).counts)),
        measure-all μ measure l (brought_to x (first_deltas all (came i).counts)),
        total-larger μ measure x all (mine p).counts (came i).counts,
        ap (λ (cs : List ℕ). total μ measure x (first_deltas all cs)) same,
      ))
    where
      l : Content
      l = least_of nodes (kind_at g x)

      here : Content
      here = content_at (peer_at peers p).contents x

      there : Content
      there = sent_at (sent_number sent i).sources (source_number g x)

      same : larger (peer_at peers p).counts (sent_number sent i).counts ≡ (peer_at peers p).counts
      same =
          larger-commutative (peer_at peers p).counts (sent_number sent i).counts
          ∙ larger-at_most (sent_number sent i).counts (peer_at peers p).counts (omega (arith, (s.carries i).narrow, (s.holds p member).wide)) counted
