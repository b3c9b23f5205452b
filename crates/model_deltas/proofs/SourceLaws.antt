-- Messages of one graph: whose sources begin those of whom, and what joining them leaves.
use Rattle.std.proofs.Common.{◌≡◌, ℕ, zero, suc, ◌+◌, ◌<◌, Bool, true, false, if◌then◌else◌, IsTrue, List, [], ◌∷◌, ◌++◌, length, take, drop, Some, None, refl, sym, ap, subst, ◌∙◌, arith}
use Rattle.model_states.specs.Counts.{zeros, larger}
use Rattle.model_states.specs.Content.{Content, least, join_contents, IsOrdered}
use Rattle.model_states.proofs.CountLaws.{length-zeros, larger-associative, larger-idempotent}
use Rattle.model_states.proofs.ContentLaws.{join-idempotent, join-associative}
use Rattle.model_graph.specs.Graph.{Decl, is_source, kind_at}
use Rattle.model_graph.specs.Evaluation.{content_at}
use Rattle.model_graph.specs.Lawful.{sources_among}
use Rattle.model_graph.proofs.PlaceLaws.{same-lists, from-nothing}
use Rattle.model_graph.specs.Message.{Sent, Message, source_number, sent_at, brought, with_gain, gained}
use Rattle.model_graph.proofs.MessageLaws.{sent-is, sent-among, among-append, gained-length, gained-at}
use Rattle.model_world.specs.Command.{Command}
use Rattle.model_world.specs.World.{Peer, peer_at, message_at, delivered}
use Rattle.model_runs.specs.Held.{IsSentTo}
use Rattle.model_world.specs.Holds.{IsPlaceOf}
use Rattle.model_world.specs.Follow.{Followed}
use Rattle.model_world.proofs.KnownLaws.{replica-holds}
use Rattle.model_world.proofs.VariableLaws.{known-ordered}
use Rattle.model_wire.specs.Lawful.{IsNodes, AreAtMost, IsMessage}
use Rattle.model_deltas.specs.Delta.{changed_sources}
use Rattle.model_deltas.specs.Applied.{joined_sources, joined}
use Rattle.model_deltas.specs.Before.{IsInOrder}
use Rattle.model_deltas.proofs.BeginLaws.{decls_of, BeginsBy, tail-of}
use Rattle.model_deltas.proofs.JoinedLaws.{joined-source}
use Rattle.model_deltas.proofs.WorldLaws.{tells-ordered}
use Rattle.model_deltas.specs.Gossip.{nothing_told}

pub decls-changed : (before : List Sent) (i : ℕ) (after : List Sent) → decls_of (changed_sources before i after) ≡ decls_of after
decls-changed before i [] = refl
decls-changed before i (t ∷ after) = ap (λ (ds : List Decl). t.decl ∷ ds) (decls-changed before (i + 1) after)

pub decls-joined : (ss ts : List Sent) → BeginsBy ss ts → decls_of (joined_sources ss ts) ≡ decls_of ss
decls-joined [] [] h = refl
decls-joined [] (t ∷ ts) h = absurd (none t.decl (decls_of ts ++ h.0) h.1) where
  none : (d : Decl) (ds : List Decl) → d ∷ ds ≡ [] → ⊥
  none d ds e = cc
decls-joined (s ∷ ss) [] h = refl
decls-joined (s ∷ ss) (t ∷ ts) h = ap (λ (ds : List Decl). s.decl ∷ ds) (decls-joined ss ts (h.0, tail-of t.decl s.decl (decls_of ts ++ h.0) (decls_of ss) h.1))

-- ---- messages of a graph

split : (n : ℕ) (g : List Decl) → g ≡ take n g ++ drop n g
split zero [] = refl
split (suc n) [] = refl
split zero (d ∷ g) = refl
split (suc n) (d ∷ g) = ap (λ (ds : List Decl). d ∷ ds) (split n g)

-- what a node sends has all sources of its graph, and so begins by those of any message to it
pub begins-by : (nodes : ℕ) (g : List Decl) (r : Peer) (m : Message) → length r.contents ≡ length g → IsSentTo nodes g m → BeginsBy (message_at g r).sources m.sources
begins-by nodes g r m long sent = (
  sources_among (drop sent.declared g),
  ap (λ (ds : List Decl). ds ++ sources_among (drop sent.declared g)) sent.sources ∙ sym (among-append (take sent.declared g) (drop sent.declared g)) ∙ ap sources_among (sym (split sent.declared g)) ∙ sym (sent-among g r.contents long),
)

-- ---- a node that takes what it has together with a message

joins-twice : (a b : Content) → IsOrdered a → join_contents a (join_contents a b) ≡ join_contents a b
joins-twice a b h = sym (join-associative a a b) ∙ ap (λ (c : Content). join_contents c b) (join-idempotent a h)

pub taken-again : (g : List Decl) (r : Peer) (m : Message) → length r.contents ≡ length g → ((x : ℕ) → x < length g → IsTrue (is_source (kind_at g x)) → IsOrdered (content_at r.contents x)) → IsInOrder m
    → delivered g (joined (message_at g r) m) r ≡ delivered g m r
taken-again g r m long ordered lawful = λ i. record { contents = contents i; counts = counts i } where
  both : Message
  both = joined (message_at g r) m

  counts : larger r.counts (larger r.counts m.counts) ≡ larger r.counts m.counts
  counts = sym (larger-associative r.counts r.counts m.counts) ∙ ap (λ (cs : List ℕ). larger cs m.counts) (larger-idempotent r.counts)

  gain : (x : ℕ) → x < length g → (b : Bool) → is_source (kind_at g x) ≡ b → with_gain (content_at r.contents x) (brought g both x) ≡ with_gain (content_at r.contents x) (brought g m x)
  gain x low true e =
      let n = source_number g x in
      let here : sent_at both.sources n ≡ join_contents (content_at r.contents x) (sent_at m.sources n) =
      joined-source (message_at g r) m n (tells-ordered g r long ordered) lawful ∙ ap (λ (c : Content). join_contents c (sent_at m.sources n)) (sent-is g r.contents x low long e) in
      ap (λ (b : Bool). with_gain (content_at r.contents x) (if b then Some (sent_at both.sources n) else None)) e
      ∙ ap (λ (c : Content). join_contents (content_at r.contents x) c) here
      ∙ joins-twice (content_at r.contents x) (sent_at m.sources n) (ordered x low e)
      ∙ ap (λ (b : Bool). with_gain (content_at r.contents x) (if b then Some (sent_at m.sources n) else None)) (sym e)
  gain x low false e =
      let n = source_number g x in
      ap (λ (b : Bool). with_gain (content_at r.contents x) (if b then Some (sent_at both.sources n) else None)) e
      ∙ ap (λ (b : Bool). with_gain (content_at r.contents x) (if b then Some (sent_at m.sources n) else None)) (sym e)

  contents : gained (brought g both) 0 r.contents ≡ gained (brought g m) 0 r.contents
  contents = same-lists (gained (brought g both) 0 r.contents) (gained (brought g m) 0 r.contents) least (gained-length (brought g both) 0 r.contents ∙ sym (gained-length (brought g m) 0 r.contents))
      (λ x low.
      let within : x < length r.contents = omega (arith, low, gained-length (brought g both) 0 r.contents) in
      gained-at (brought g both) 0 r.contents x within
      ∙ ap (λ (i : ℕ). with_gain (content_at r.contents x) (brought g both i)) (sym (from-nothing x))
      ∙ gain x (omega (arith, within, long)) (is_source (kind_at g x)) refl
      ∙ ap (λ (i : ℕ). with_gain (content_at r.contents x) (brought g m i)) (from-nothing x)
      ∙ sym (gained-at (brought g m) 0 r.contents x within))

-- so it is at each place of a lawful run
pub taken-there : (g : List Decl) (nodes : ℕ) (commands : List Command) (f : Followed) → IsPlaceOf g nodes commands f → (p : ℕ) (m : Message) → p < nodes → IsInOrder m
    → delivered f.run.graph (joined (message_at f.run.graph (peer_at f.run.peers p)) m) (peer_at f.run.peers p) ≡ delivered f.run.graph m (peer_at f.run.peers p)
taken-there g nodes commands f place p m member lawful =
    let h = replica-holds g nodes commands f place p member in
    taken-again f.run.graph (peer_at f.run.peers p) m h.long (λ x low source. subst IsOrdered (sym (h.knows x low)) (known-ordered f.run.graph nodes f.deltas (peer_at f.run.peers p).counts x)) lawful

-- ---- before a node told anything

pub nothing-lawful : (nodes : ℕ) → IsNodes nodes → IsMessage (nothing_told nodes)
nothing-lawful nodes h = record { nodes = subst IsNodes (sym (length-zeros nodes)) h; counts = each nodes; few = omega arith; sources = tt } where
  each : (n : ℕ) → AreAtMost 100000 (zeros n)
  each zero = tt
  each (suc n) = (omega arith, each n)
