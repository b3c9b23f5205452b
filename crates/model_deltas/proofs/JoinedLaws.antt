-- What two messages have together, source by source, and that it is a message where no source is too large.
use Rattle.std.proofs.Common.{◌≡◌, ℕ, zero, suc, ◌≤◌, max, List, [], ◌∷◌, length, map, Ok, refl, sym, subst, ◌∙◌, arith}
use Rattle.std.specs.List.{AllByRecursion}
use Rattle.model_states.specs.Counts.{larger}
use Rattle.model_states.specs.Content.{least, join_contents, IsOrdered}
use Rattle.model_states.proofs.CountLaws.{length-larger}
use Rattle.model_states.proofs.ContentLaws.{join-nothing, join-commutative, ordered-least}
use Rattle.model_graph.specs.Graph.{Decl}
use Rattle.model_graph.specs.Limit.{AreWithinLimit}
use Rattle.model_graph.specs.Message.{Sent, Message, sent_at}
use Rattle.model_wire.specs.Lawful.{IsNodes, IsSource, IsSent, IsMessage}
use Rattle.model_runs.proofs.EachLaws.{each-larger}
use Rattle.model_runs.proofs.SourceLaws.{source-ordered, source-join}
use Rattle.model_deltas.specs.Delta.{Delta, carried}
use Rattle.model_deltas.specs.Applied.{joined_sources, joined, contents_of, applied}
use Rattle.model_deltas.specs.Before.{AreSourcesAlike, AreAlike, IsDelta, IsInOrder}
use Rattle.model_deltas.proofs.AppliedLaws.{cause-done}

-- what a lawful source has is ordered, and so is the least that stands for one that isn't there
sent-ordered : (nodes : ℕ) (sources : List Sent) → AllByRecursion (IsSent nodes) sources → (i : ℕ) → IsOrdered (sent_at sources i)
sent-ordered nodes [] h i = ordered-least
sent-ordered nodes (s ∷ sources) h zero = source-ordered nodes s.decl.kind s.content h.0.1
sent-ordered nodes (s ∷ sources) h (suc i) = sent-ordered nodes sources h.1 i

pub message-ordered : (m : Message) → IsMessage m → IsInOrder m
message-ordered m h = sent-ordered (length m.counts) m.sources h.sources

joined-at : (ss ts : List Sent) → ((i : ℕ) → IsOrdered (sent_at ss i)) → ((i : ℕ) → IsOrdered (sent_at ts i)) → (i : ℕ) → sent_at (joined_sources ss ts) i ≡ join_contents (sent_at ss i) (sent_at ts i)
joined-at [] ts h g i = sym (join-commutative least (sent_at ts i) ∙ join-nothing (sent_at ts i) (g i))
joined-at (s ∷ ss) [] h g i = sym (join-nothing (sent_at (s ∷ ss) i) (h i))
joined-at (s ∷ ss) (t ∷ ts) h g zero = refl
joined-at (s ∷ ss) (t ∷ ts) h g (suc i) = joined-at ss ts (λ j. h (suc j)) (λ j. g (suc j)) i

pub joined-source : (m n : Message) (i : ℕ) → IsInOrder m → IsInOrder n → sent_at (joined m n).sources i ≡ join_contents (sent_at m.sources i) (sent_at n.sources i)
joined-source m n i h g = joined-at m.sources n.sources h g i

pub length-joined : (ss ts : List Sent) → length (joined_sources ss ts) ≡ max (length ss) (length ts)
length-joined [] ts = omega arith
length-joined (s ∷ ss) [] = omega arith
length-joined (s ∷ ss) (t ∷ ts) = omega (arith, length-joined ss ts)

pub joined-lawful : (nodes : ℕ) (ss ts : List Sent) → AllByRecursion (IsSent nodes) ss → AllByRecursion (IsSent nodes) ts → AreSourcesAlike ss ts → AreWithinLimit (map (λ s. s.content) (joined_sources ss ts))
    → AllByRecursion (IsSent nodes) (joined_sources ss ts)
joined-lawful nodes [] ts h g alike small = g
joined-lawful nodes (s ∷ ss) [] h g alike small = h
joined-lawful nodes (s ∷ ss) (t ∷ ts) h g alike small =
    ((h.0.0, source-join nodes s.decl.kind s.content t.content h.0.1 (subst (λ (d : Decl). IsSource nodes d.kind t.content) (sym alike.0) g.0.1) (small 0)), joined-lawful nodes ss ts h.1 g.1 alike.1 (λ i. small (suc i)))

pub joined-message : (m n : Message) → IsMessage m → IsMessage n → AreAlike m n → AreWithinLimit (contents_of (joined m n)) → IsMessage (joined m n)
joined-message m n h g alike small =
    let long : length (larger m.counts n.counts) ≡ length m.counts = omega (arith, length-larger m.counts n.counts, alike.nodes) in
    record {
      nodes = subst IsNodes (sym long) h.nodes;
      counts = each-larger (λ c. c ≤ 100000) (λ c d low high. omega (arith, low, high)) m.counts n.counts h.counts g.counts;
      few = omega (arith, length-joined m.sources n.sources, h.few, g.few);
      sources = subst (λ (nodes : ℕ). AllByRecursion (IsSent nodes) (joined_sources m.sources n.sources)) (sym long)
          (joined-lawful (length m.counts) m.sources n.sources h.sources (subst (λ (nodes : ℕ). AllByRecursion (IsSent nodes) n.sources) (sym alike.nodes) g.sources) alike.sources small);
    }

-- what a delta carries is a message
pub carried-message : (d : Delta) → IsDelta d → IsMessage (carried d)
carried-message d h = record { nodes = h.nodes; counts = h.counts; few = h.few; sources = h.sources }

pub applied-lawful : (m n : Message) (d : Delta) → IsMessage m → IsDelta d → AreAlike m (carried d) → applied m d ≡ Ok n → IsMessage n
applied-lawful m n d h g alike e =
    let parts = (cause-done m n d).0 e in
    subst IsMessage parts.2 (joined-message m (carried d) h (carried-message d g) alike parts.1)
