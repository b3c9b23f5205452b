-- The places of refusals: what is left from the failing field on is no more than there was.
use Rattle.std.proofs.Common.{◌≡◌, ℕ, ◌≤◌, Bool, true, false, cond, eqb, List, length, Result, Ok, Err, ap, arith}
use Rattle.std.specs.Int.{w64}
use Rattle.model_graph.specs.Chain.{◌>>=◌}
use Rattle.model_states.specs.Counts.{count_at}
use Rattle.model_graph.specs.Message.{Sent}
use Rattle.model_wire.specs.declared.wire_why.WireWhy.{WireWhy}
use Rattle.model_wire.specs.declared.wire_why.WireWhy.TheVariants as why
use Rattle.model_wire.specs.Reader.{Reading, Reader, both_at, counted, magic_at}
use Rattle.model_wire.specs.Message.{update_limit, sources_at, counts_at, placed, decoded_from}
use Rattle.model_wire.proofs.Within.{Inside, IsInside, made_inside, counted_inside, both_inside, list_inside, ranged_inside, magic_inside, counts_inside, sources_inside}
use Rattle.model_deltas.specs.Delta.{Delta}
use Rattle.model_deltas.specs.Reader.{later_count_at, next_replica, later_counts_at, Span, span_at, delta_made, delta_body_at, delta_version_at, delta_at, nothing_behind_it, read_delta, decoded_delta}

later_counts_inside : (from : List ℕ) → IsInside (later_counts_at from)
unfolding later_counts_at
later_counts_inside from = list_inside ℕ ℕ (later_count_at from) next_replica (λ q. ranged_inside w64 (count_at from q) update_limit) (length from) 0

span_inside : IsInside span_at
unfolding span_at
span_inside = both_inside (List ℕ) (List ℕ) counts_at later_counts_at counts_inside later_counts_inside

delta_body_inside : IsInside delta_body_at
unfolding delta_body_at
delta_body_inside =
    made_inside (Span × List Sent) Delta delta_made (both_at span_at (λ span. sources_at 2 (length span.0))) (both_inside Span (List Sent) span_at (λ span. sources_at 2 (length span.0)) span_inside (λ span. sources_inside 2 (length span.0)))

delta_version_inside : IsInside delta_version_at
unfolding delta_version_at
delta_version_inside = behind 76 _ (behind 65 _ (behind 83 _ (behind 68 (magic_at 1) (magic_inside 1))))
  where
    behind : (b : ℕ) (next : Reader ℕ) → IsInside next → IsInside (counted (magic_at b) (λ _. next))
    behind b next h = counted_inside ℕ ℕ (magic_at b) (λ _. next) (magic_inside b) (λ _. h)

delta_inside : IsInside delta_at
unfolding delta_at
delta_inside = counted_inside ℕ Delta delta_version_at (λ _. delta_body_at) delta_version_inside (λ _. delta_body_inside)

abbrev refusal : ℕ × WireWhy → Result Delta (ℕ × WireWhy)
refusal e = Err e

refusal_is : (e f : ℕ × WireWhy) → refusal e ≡ refusal f → e ≡ f
refusal_is e f h = cc

pub refused_within : (bytes : List ℕ) (e : ℕ × WireWhy) → read_delta bytes ≡ Err e → e.0 ≤ length bytes
unfolding read_delta
refused_within bytes e h = by (delta_at bytes) (delta_inside bytes) h
  where
    by : (r : Reading Delta) → Inside (length bytes) r → (r >>= nothing_behind_it) ≡ Err e → e.0 ≤ length bytes
    by (Ok d) le k = behind (eqb (length d.1) 0) le k
      where
        behind : (b : Bool) → length d.1 ≤ length bytes → cond b (Ok d.0) (Err (length d.1, why.Rest)) ≡ Err e → e.0 ≤ length bytes
        behind true le k = absurd cc
        behind false le k = omega (arith, le, ap (λ (x : ℕ × WireWhy). x.0) (refusal_is (length d.1, why.Rest) e k))
    by (Err f) le k = omega (arith, le, ap (λ (x : ℕ × WireWhy). x.0) (refusal_is f e k))

pub places_within : (bytes : List ℕ) (place : ℕ) (w : WireWhy) → decoded_delta bytes ≡ Err (place, w) → place ≤ length bytes
unfolding decoded_delta
places_within bytes place w h = by (read_delta bytes) h
  where
    by : (r : Result Delta (ℕ × WireWhy)) → decoded_from bytes r ≡ Err (place, w) → place ≤ length bytes
    by (Ok d) k = absurd cc
    by (Err e) k = omega (arith, ap (λ (x : ℕ × WireWhy). x.0) (refusal_is (placed bytes e) (place, w) k))
