-- No act makes a replica count fewer updates.
use Rattle.std.proofs.Common.{◌≡◌, ℕ, zero, suc, ◌+◌, ◌<◌, List, [], ◌∷◌, length, refl, sym, subst, arith, slice_set}
use Rattle.model_states.specs.Counts.{count_at, AreCountsAtMost}
use Rattle.model_states.proofs.CountLaws.{count_at-larger}
use Rattle.model_graph.proofs.PlaceLaws.{at-set, at-map-low, map-length, set-length}
use Rattle.model_world.specs.World.{Peer, Run, Act, Update, Keep, Post, Take, Point, Show, Open, Reach, Extend, no_peer, peer_at, sent_number, updated, delivered, extended, effect}

pub counts-itself : (cs : List ℕ) → AreCountsAtMost cs cs
counts-itself cs q = omega arith

counts-raised : (cs : List ℕ) (p : ℕ) → AreCountsAtMost cs (slice_set cs p (count_at cs p + 1))
counts-raised [] p q = omega arith
counts-raised (c ∷ cs) zero zero = omega arith
counts-raised (c ∷ cs) zero (suc q) = omega arith
counts-raised (c ∷ cs) (suc p) zero = omega arith
counts-raised (c ∷ cs) (suc p) (suc q) = counts-raised cs p q

-- no count of a replica falls by an act
peer-set : (peers : List Peer) (p : ℕ) (r : Peer) → AreCountsAtMost (peer_at peers p).counts r.counts → (q : ℕ) → q < length peers → AreCountsAtMost (peer_at peers q).counts (peer_at (slice_set peers p r) q).counts
peer-set peers p r more q low =
    at-set (λ (s : Peer). AreCountsAtMost (peer_at peers q).counts s.counts) peers p r no_peer q low
    (λ e. subst (λ (i : ℕ). AreCountsAtMost (peer_at peers i).counts r.counts) (sym e) more)
    (λ n. counts-itself (peer_at peers q).counts)

pub counts-rise : (run : Run) (a : Act) (q : ℕ) → q < length run.peers → AreCountsAtMost (peer_at run.peers q).counts (peer_at (effect run a).peers q).counts
counts-rise run (Update p x op) q low = peer-set run.peers p (updated p x op (peer_at run.peers p)) (counts-raised (peer_at run.peers p).counts p) q low
counts-rise run (Take p i) q low =
    peer-set run.peers p (delivered run.graph (sent_number run.sent i) (peer_at run.peers p))
    (λ node. omega (arith, count_at-larger (peer_at run.peers p).counts (sent_number run.sent i).counts node)) q low
counts-rise run (Extend d) q low =
    subst (λ (r : Peer). AreCountsAtMost (peer_at run.peers q).counts r.counts) (sym (at-map-low (extended (length run.peers) d) run.peers q no_peer no_peer low)) (counts-itself (peer_at run.peers q).counts)
counts-rise run (Keep p x) q low = counts-itself (peer_at run.peers q).counts
counts-rise run (Post p) q low = counts-itself (peer_at run.peers q).counts
counts-rise run Point q low = counts-itself (peer_at run.peers q).counts
counts-rise run (Show p x) q low = counts-itself (peer_at run.peers q).counts
counts-rise run (Open p x until) q low = counts-itself (peer_at run.peers q).counts
counts-rise run (Reach p x until) q low = counts-itself (peer_at run.peers q).counts

pub peers-stay : (run : Run) (a : Act) → length (effect run a).peers ≡ length run.peers
peers-stay run (Update p x op) = set-length run.peers p (updated p x op (peer_at run.peers p))
peers-stay run (Take p i) = set-length run.peers p (delivered run.graph (sent_number run.sent i) (peer_at run.peers p))
peers-stay run (Extend d) = map-length (extended (length run.peers) d) run.peers
peers-stay run (Keep p x) = refl
peers-stay run (Post p) = refl
peers-stay run Point = refl
peers-stay run (Show p x) = refl
peers-stay run (Open p x until) = refl
peers-stay run (Reach p x until) = refl
