-- What replicas hold and send stays within the ranges of the message format.
use Rattle.std.proofs.Common.{◌≡◌, ℕ, zero, suc, ◌+◌, ◌≤◌, ◌<◌, ◌⊎◌, inl, inr, Bool, true, false, cond, if◌then◌else◌, IsTrue, IsFalse, List, [], ◌∷◌, ◌++◌, length, map, take, slice_set, Some, None, refl, sym, ap, subst, ◌∙◌, arith}
use Rattle.std.specs.Prelude.{slice_get}
use Rattle.std.specs.List.{AllByRecursion}
use Rattle.std.proofs.lemmas.List.{take_all, take-append-le}
use Rattle.std.proofs.Math.Seq.{take-length}
use Rattle.model_states.specs.Counts.{count_at}
use Rattle.model_states.specs.Content.{Content, least, join_contents, size_of, row_limit}
use Rattle.model_states.specs.Update.{Op, delta}
use Rattle.model_states.proofs.CountLaws.{length-zeros, length-larger}
use Rattle.model_states.proofs.ContentLaws.{join-nothing}
use Rattle.model_graph.specs.Graph.{Kind, Decl, is_source, no_decl, decl_at, kind_at}
use Rattle.model_graph.specs.Evaluation.{content_at, least_of, first_large}
use Rattle.model_graph.specs.Lawful.{sources_among}
use Rattle.model_graph.proofs.LimitLaws.{small-words}
use Rattle.model_graph.proofs.PlaceLaws.{below-or-not, from-nothing, at-append, at-last, at-set, at-map-low, set-length, map-length, length-push}
use Rattle.model_graph.specs.Message.{Sent, Message, sent_from, source_number, sent_at, brought, gained, with_gain}
use Rattle.model_graph.proofs.MessageLaws.{sent-among, gained-length, gained-at}
use Rattle.model_world.proofs.VariableLaws.{kind-append}
use Rattle.model_values.specs.Name.{is_name}
use Rattle.model_values.proofs.ListLaws.{each-weaker}
use Rattle.model_readings.specs.Lawful.{IsGraph}
use Rattle.model_wire.specs.Lawful.{IsSource, IsMessage}
use Rattle.model_world.specs.World.{Peer, fresh_peer, updated, delivered, extended, message_at}
use Rattle.model_runs.specs.Held.{AreBelow, IsHeld, IsSentSource, IsSentTo, IsUpdate}
use Rattle.model_runs.proofs.EachLaws.{each-replicate, below-later, below-counted, below-larger}
use Rattle.model_runs.proofs.SourceLaws.{source-shape, source-ordered, source-narrow, source-least, source-join, update-source, delta-source}

-- ---- the beginning

pub held-fresh : (nodes : ℕ) (g : List Decl) → IsHeld nodes g (fresh_peer g nodes)
held-fresh nodes g = record {
  long = map-length (λ d. least_of nodes d.kind) g;
  wide = length-zeros nodes;
  sources = λ x low source. subst (IsSource nodes (kind_at g x)) (sym (at-map-low (λ (d : Decl). least_of nodes d.kind) g x no_decl least low)) (source-least nodes (kind_at g x) source);
  derived = λ x low process. at-map-low (λ (d : Decl). least_of nodes d.kind) g x no_decl least low;
}

pub below-fresh : (nodes : ℕ) (g : List Decl) → AreBelow 1 (fresh_peer g nodes).counts
below-fresh nodes g = each-replicate (λ n. n < 1) nodes 0 (omega arith)

-- ---- updates

pub held-updated : (nodes p x : ℕ) (g : List Decl) (op : Op) (r : Peer) → IsHeld nodes g r → p < nodes → x < length g → IsUpdate nodes g x op → count_at r.counts p < 100000
    → size_of (content_at (updated p x op r).contents x) ≤ row_limit → IsHeld nodes g (updated p x op r)
held-updated nodes p x g op r h member low update few small = record {
  long = set-length r.contents x new ∙ h.long;
  wide = set-length r.counts p (count_at r.counts p + 1) ∙ h.wide;
  sources = λ y there source. at-set (λ (s : Content). IsSource nodes (kind_at g y) s) r.contents x new least y (omega (arith, there, h.long))
      (λ e. subst (λ (z : ℕ). IsSource nodes (kind_at g z) new) (sym e) joined) (λ _. h.sources y there source);
  derived = λ y there process. at-set (λ (s : Content). s ≡ least_of nodes (kind_at g y)) r.contents x new least y (omega (arith, there, h.long))
      (λ e. absurd (clash (is_source (kind_at g y)) (subst (λ (z : ℕ). IsTrue (is_source (kind_at g z))) (sym e) source-here) process)) (λ _. h.derived y there process);
} where
  new : Content
  new = join_contents (content_at r.contents x) (delta op (content_at r.contents x) p (count_at r.counts p + 1))

  clash : (b : Bool) → IsTrue b → IsFalse b → ⊥
  clash true t f = cc
  clash false t f = cc

  source-here : IsTrue (is_source (kind_at g x))
  source-here = update-source nodes g x op update

  old : IsSource nodes (kind_at g x) (content_at r.contents x)
  old = h.sources x low source-here

  here : content_at (slice_set r.contents x new) x ≡ new
  here = at-set (λ (s : Content). s ≡ new) r.contents x new least x (omega (arith, low, h.long)) (λ _. refl) (λ n. absurd (n refl))

  joined : IsSource nodes (kind_at g x) new
  joined = source-join nodes (kind_at g x) (content_at r.contents x) (delta op (content_at r.contents x) p (count_at r.counts p + 1)) old
      (delta-source nodes p (count_at r.counts p) g x op (content_at r.contents x) update old member few) (subst (λ (s : Content). size_of s ≤ row_limit) here small)

pub below-updated : (c p x : ℕ) (op : Op) (r : Peer) → AreBelow c r.counts → AreBelow (c + 1) (updated p x op r).counts
below-updated c p x op r h = below-counted c p r.counts h

-- ---- deliveries

-- what a message has of a source, unless it has nothing of it
sent-source : (nodes declared : ℕ) (g : List Decl) (sent : List Sent) → map (λ s. s.decl) sent ≡ sources_among (take declared g) → AllByRecursion (IsSentSource nodes) sent
    → (x : ℕ) → x < length g → IsTrue (is_source (kind_at g x)) → (IsSource nodes (kind_at g x) (sent_at sent (source_number g x))) ⊎ (sent_at sent (source_number g x) ≡ least)
sent-source nodes declared [] sent e each x low source = absurd (omega (arith, low))
sent-source nodes zero (d ∷ g) [] e each x low source = inr refl
sent-source nodes zero (d ∷ g) (s ∷ sent) e each x low source = absurd cc
sent-source nodes (suc n) (d ∷ g) sent e each zero low source = first sent (e ∙ ap (λ (b : Bool). cond b (d ∷ sources_among (take n g)) (sources_among (take n g))) source) each where
  first : (sent : List Sent) → map (λ s. s.decl) sent ≡ d ∷ sources_among (take n g) → AllByRecursion (IsSentSource nodes) sent → (IsSource nodes d.kind (sent_at sent 0)) ⊎ (sent_at sent 0 ≡ least)
  first [] e each = absurd cc
  first (s ∷ sent) e each = inl (let same : s.decl ≡ d = cc in subst (λ (c : Decl). IsSource nodes c.kind s.content) same each.0)
sent-source nodes (suc n) (d ∷ g) sent e each (suc y) low source = choose (is_source d.kind) sent e each (λ sent e each. sent-source nodes n g sent e each y (omega (arith, low)) source) where
  Found : List Sent → ℕ → Type 0
  Found sent i = (IsSource nodes (kind_at g y) (sent_at sent i)) ⊎ (sent_at sent i ≡ least)

  choose : (b : Bool) → (sent : List Sent) → map (λ s. s.decl) sent ≡ cond b (d ∷ sources_among (take n g)) (sources_among (take n g)) → AllByRecursion (IsSentSource nodes) sent
      → ((sent : List Sent) → map (λ s. s.decl) sent ≡ sources_among (take n g) → AllByRecursion (IsSentSource nodes) sent → Found sent (source_number g y))
      → Found sent (if b then source_number g y + 1 else source_number g y)
  choose true [] e each rest = absurd cc
  choose true (s ∷ sent) e each rest =
      let next : suc (source_number g y) ≡ source_number g y + 1 = omega arith in
      let same : map (λ s. s.decl) sent ≡ sources_among (take n g) = cc in
      subst (Found (s ∷ sent)) next (rest sent same each.1)
  choose false sent e each rest = rest sent e each

pub held-delivered : (nodes : ℕ) (g : List Decl) (m : Message) (r : Peer) → IsHeld nodes g r → IsSentTo nodes g m → first_large 0 (delivered g m r).contents ≡ None → IsHeld nodes g (delivered g m r)
held-delivered nodes g m r h sent small = record {
  long = gained-length (brought g m) 0 r.contents ∙ h.long;
  wide = omega (arith, length-larger r.counts m.counts, h.wide, sent.wide);
  sources = λ x low source. gain x low source (sent-source nodes sent.declared g m.sources sent.sources sent.each x low source);
  derived = λ x low process. at x low ∙ ap (λ (b : Bool). with_gain (content_at r.contents x) (if b then Some (sent_at m.sources (source_number g x)) else None)) process ∙ h.derived x low process;
} where
  at : (x : ℕ) → x < length g → content_at (gained (brought g m) 0 r.contents) x ≡ with_gain (content_at r.contents x) (brought g m x)
  at x low = gained-at (brought g m) 0 r.contents x (omega (arith, low, h.long)) ∙ ap (λ (i : ℕ). with_gain (content_at r.contents x) (brought g m i)) (sym (from-nothing x))

  is : (x : ℕ) → x < length g → IsTrue (is_source (kind_at g x)) → content_at (gained (brought g m) 0 r.contents) x ≡ join_contents (content_at r.contents x) (sent_at m.sources (source_number g x))
  is x low source = at x low ∙ ap (λ (b : Bool). with_gain (content_at r.contents x) (if b then Some (sent_at m.sources (source_number g x)) else None)) source

  gain : (x : ℕ) → x < length g → IsTrue (is_source (kind_at g x)) → (IsSource nodes (kind_at g x) (sent_at m.sources (source_number g x))) ⊎ (sent_at m.sources (source_number g x) ≡ least)
      → IsSource nodes (kind_at g x) (content_at (gained (brought g m) 0 r.contents) x)
  gain x low source (inl there) =
      subst (IsSource nodes (kind_at g x)) (sym (is x low source))
      (source-join nodes (kind_at g x) (content_at r.contents x) (sent_at m.sources (source_number g x)) (h.sources x low source) there
      (subst (λ (s : Content). size_of s ≤ row_limit) (is x low source) ((small-words (gained (brought g m) 0 r.contents)).0 small x)))
  gain x low source (inr nothing) =
      subst (IsSource nodes (kind_at g x))
      (sym (is x low source ∙ ap (λ (s : Content). join_contents (content_at r.contents x) s) nothing ∙ join-nothing (content_at r.contents x) (source-ordered nodes (kind_at g x) (content_at r.contents x) (h.sources x low source))))
      (h.sources x low source)

pub below-delivered : (c : ℕ) (g : List Decl) (m : Message) (r : Peer) → length r.counts ≡ length m.counts → AreBelow c r.counts → AreBelow c m.counts → AreBelow c (delivered g m r).counts
below-delivered c g m r long h k = below-larger c r.counts m.counts h k

-- ---- declarations

pub last-kind : (g : List Decl) (d : Decl) → kind_at (g ++ d ∷ []) (length g) ≡ d.kind
last-kind g d = ap (λ (c : Decl). c.kind) (at-last g d no_decl)

-- a variable of the longer graph is an earlier one or the new one
pub each-variable : (g : List Decl) (d : Decl) (P : ℕ → Type 0) → ((x : ℕ) → x < length g → P x) → P (length g) → (x : ℕ) → x < length (g ++ d ∷ []) → P x
each-variable g d P earlier new x low = choose (below-or-not x (length g)) where
  choose : (x < length g) ⊎ (length g ≤ x) → P x
  choose (inl h) = earlier x h
  choose (inr h) = subst P (let here : length g ≡ x = omega (arith, h, low, length-push g d) in here) new

pub held-extended : (nodes : ℕ) (g : List Decl) (d : Decl) (r : Peer) → IsHeld nodes g r → IsHeld nodes (g ++ d ∷ []) (extended nodes d r)
held-extended nodes g d r h = record {
  long = omega (arith, h.long, length-push r.contents (least_of nodes d.kind), length-push g d);
  wide = h.wide;
  sources = each-variable g d (λ x. IsTrue (is_source (kind_at longer x)) → IsSource nodes (kind_at longer x) (content_at after x))
      (λ x low source.
      subst (IsSource nodes (kind_at longer x)) (sym (old x low)) (subst (λ (k : Kind). IsSource nodes k (content_at r.contents x)) (sym (kind-append g (d ∷ []) x low))
      (h.sources x low (subst (λ (k : Kind). IsTrue (is_source k)) (kind-append g (d ∷ []) x low) source))))
      (λ source. subst (IsSource nodes (kind_at longer (length g))) (sym new) (source-least nodes (kind_at longer (length g)) source));
  derived = each-variable g d (λ x. IsFalse (is_source (kind_at longer x)) → content_at after x ≡ least_of nodes (kind_at longer x))
      (λ x low process. old x low ∙ h.derived x low (subst (λ (k : Kind). IsFalse (is_source k)) (kind-append g (d ∷ []) x low) process) ∙ ap (least_of nodes) (sym (kind-append g (d ∷ []) x low)))
      (λ process. new);
} where
  longer : List Decl
  longer = g ++ d ∷ []

  after : List Content
  after = r.contents ++ least_of nodes d.kind ∷ []

  old : (x : ℕ) → x < length g → content_at (r.contents ++ least_of nodes d.kind ∷ []) x ≡ content_at r.contents x
  old x low = at-append r.contents (least_of nodes d.kind ∷ []) x least (omega (arith, low, h.long))

  new : content_at (r.contents ++ least_of nodes d.kind ∷ []) (length g) ≡ least_of nodes (kind_at (g ++ d ∷ []) (length g))
  new = ap (λ (i : ℕ). content_at (r.contents ++ least_of nodes d.kind ∷ []) i) (sym h.long) ∙ at-last r.contents (least_of nodes d.kind) least ∙ ap (least_of nodes) (sym (last-kind g d))

pub sent-extended : (nodes : ℕ) (g : List Decl) (d : Decl) (m : Message) → IsSentTo nodes g m → IsSentTo nodes (g ++ d ∷ []) m
sent-extended nodes g d m h = choose (below-or-not h.declared (length g)) where
  choose : (h.declared < length g) ⊎ (length g ≤ h.declared) → IsSentTo nodes (g ++ d ∷ []) m
  choose (inl low) = record { wide = h.wide; declared = h.declared; sources = h.sources ∙ ap sources_among (sym (take-append-le h.declared g (d ∷ []) (omega (arith, low)))); each = h.each }
  choose (inr past) = record {
    wide = h.wide;
    declared = length g;
    sources = h.sources ∙ ap sources_among (take_all h.declared g past ∙ sym (take-length g) ∙ sym (take-append-le (length g) g (d ∷ []) (omega arith)));
    each = h.each;
  }

-- ---- what a replica sends

-- what holds of each source and what it holds, holds of each source of a message
sent-each : (P : Decl → Content → Type 0) (g : List Decl) (ss : List Content) → length ss ≡ length g → ((x : ℕ) → x < length g → IsTrue (is_source (kind_at g x)) → P (decl_at g x) (content_at ss x))
    → AllByRecursion (λ (s : Sent). P s.decl s.content) (sent_from g ss)
sent-each P [] ss long h = tt
sent-each P (d ∷ g) [] long h = absurd (omega (arith, long))
sent-each P (d ∷ g) (s ∷ ss) long h = choose (is_source d.kind) refl (sent-each P g ss (omega (arith, long)) (λ x low source. h (suc x) (omega (arith, low)) source)) where
  choose : (b : Bool) → is_source d.kind ≡ b → AllByRecursion (λ (s : Sent). P s.decl s.content) (sent_from g ss)
      → AllByRecursion (λ (s : Sent). P s.decl s.content) (if b then record { decl = d; content = s } ∷ sent_from g ss else sent_from g ss)
  choose true e rest = (h 0 (omega arith) e, rest)
  choose false e rest = rest

sent-few : (g : List Decl) (ss : List Content) → length (sent_from g ss) ≤ length g
sent-few [] ss = omega arith
sent-few (d ∷ g) [] = omega arith
sent-few (d ∷ g) (s ∷ ss) = choose (is_source d.kind) (sent-few g ss) where
  choose : (b : Bool) → length (sent_from g ss) ≤ length g → length (if b then record { decl = d; content = s } ∷ sent_from g ss else sent_from g ss) ≤ suc (length g)
  choose true rest = omega (arith, rest)
  choose false rest = omega (arith, rest)

pub held-sent : (nodes : ℕ) (g : List Decl) (r : Peer) → IsHeld nodes g r → IsSentTo nodes g (message_at g r)
held-sent nodes g r h = record {
  wide = h.wide;
  declared = length g;
  sources = sent-among g r.contents h.long ∙ ap sources_among (sym (take-length g));
  each = sent-each (λ (d : Decl) (s : Content). IsSource nodes d.kind s) g r.contents h.long h.sources;
}

pub declared-at : (g : List Decl) (x : ℕ) → x < length g → slice_get g x ≡ Some (decl_at g x)
declared-at [] x low = absurd (omega (arith, low))
declared-at (d ∷ g) zero low = refl
declared-at (d ∷ g) (suc x) low = declared-at g x (omega (arith, low))

pub held-message : (nodes : ℕ) (g : List Decl) (r : Peer) → IsGraph g → 1 ≤ nodes → nodes ≤ 8 → IsHeld nodes g r → AreBelow 100001 r.counts → IsMessage (message_at g r)
held-message nodes g r graph some few h below = record {
  nodes = record { some = omega (arith, some, h.wide); few = omega (arith, few, h.wide) };
  counts = each-weaker (λ n. n < 100001) (λ n. n ≤ 100000) (λ n low. omega (arith, low)) r.counts below;
  few = omega (arith, sent-few g r.contents, graph.few);
  sources = sent-each (λ (d : Decl) (s : Content). (is_name d.name ≡ true) × IsSource (length r.counts) d.kind s) g r.contents h.long
      (λ x low source. ((graph.each x (decl_at g x) (declared-at g x low)).shape, subst (λ (n : ℕ). IsSource n (kind_at g x) (content_at r.contents x)) (sym h.wide) (h.sources x low source)));
}

pub ruleset held_laws = (
  held-fresh,
  below-fresh,
  held-updated,
  below-updated,
  held-delivered,
  below-delivered,
  held-extended,
  sent-extended,
  held-sent,
  held-message,
  source-narrow,
  source-shape,
  source-ordered,
  below-later,
)
