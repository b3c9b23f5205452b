-- Where the beginning and the counts of a delta fail.
use Rattle.std.proofs.Common.{◌≡◌, ℕ, ◌+◌, ◌<◌, ◌≤◌, List, [], ◌∷◌, length, sym, subst, arith}
use Rattle.std.specs.List.{flat_map}
use Rattle.std.specs.Int.{w8, w64, to_be_bytes}
use Rattle.model_states.specs.Counts.{count_at}
use Rattle.model_wire.specs.declared.wire_why.WireWhy.TheVariants as why
use Rattle.model_wire.specs.Reader.{list_at, ranged_at, magic_at}
use Rattle.model_wire.specs.Message.{update_limit, nothing_more, numbers_at, counts_at}
use Rattle.model_wire.specs.Lawful.{AreAtMost}
use Rattle.model_wire.specs.Stuck.{Failure, FailsBehind, EitherFails, FailsNumber, FailsCounted, FailsCounts, spelled_all_counts}
use Rattle.model_wire.specs.Stuck as stuck
use Rattle.model_wire.proofs.Codecs.{wide8, wide64, AllHave}
use Rattle.model_wire.proofs.ValueLaws.{HasRange, ranged_codec}
use Rattle.model_wire.proofs.SourceLaws.{Ranged, numbers_known, numbers_ranged}
use Rattle.model_wire.proofs.MessageLaws.{AreCounts, counts_codec}
use Rattle.model_wire.proofs.Failing.{FailsAs, both_fail, after, FailsNext, list_fail, Implies, fail_as, either_as, behind_as, as_it_is}
use Rattle.model_wire.proofs.FieldFails.{range_fail, numbered_fail}
use Rattle.model_wire.proofs.SourceFails.{magic_fail, byte_fail}
use Rattle.model_deltas.specs.Reader.{next_replica, later_counts_at, Span, span_at, delta_version_at}
use Rattle.model_deltas.specs.Stuck.{AreLater, FailsLater, FailsSpan, FailsDeltaVersion, FailsDeltaBeginning}
use Rattle.model_deltas.proofs.CodecLaws as codecs

-- ---- the beginning

pub version_fail : FailsAs ℕ delta_version_at FailsDeltaBeginning
unfolding delta_version_at
version_fail = byte_fail 76 _ _ (omega arith) (byte_fail 65 _ _ (omega arith) (byte_fail 83 _ _ (omega arith) (byte_fail 68 (magic_at 1) FailsDeltaVersion (omega arith) (magic_fail 1))))

-- ---- counts

-- numbers of which each has a least one
ranged_fail : (S : Type 0) (least : S → ℕ) (next : S → ℕ → S) (n : ℕ) (s : S)
    → FailsAs (List ℕ) (list_at (λ s. ranged_at w64 (least s) update_limit) next n s) (FailsNext S ℕ (λ s. HasRange 18446744073709551616 (least s) 100000) (to_be_bytes w64) next (λ s. FailsNumber 8 (least s) 100000 why.Range) n s)
ranged_fail S least next n s =
    list_fail S ℕ (λ s. HasRange 18446744073709551616 (least s) 100000) (to_be_bytes w64) (λ s. FailsNumber 8 (least s) 100000 why.Range) (λ s. ranged_at w64 (least s) update_limit) next
    (λ s. ranged_codec w64 18446744073709551616 wide64 (least s) 100000) (λ s. range_fail w64 18446744073709551616 wide64 (least s) 100000 why.Range) n s

numbers_fail : (n : ℕ) → FailsAs (List ℕ) (numbers_at update_limit n) (FailsCounts 100000 n)
unfolding numbers_at
numbers_fail n =
    fail_as (List ℕ) (numbers_at update_limit n) (FailsNext (Unit {0}) ℕ (Ranged 100000) (to_be_bytes w64) nothing_more (λ _. FailsNumber 8 0 100000 why.Range) n tt) (FailsCounts 100000 n) (ranged_fail (Unit {0}) (λ _. 0) nothing_more n tt)
    (behind_as (List ℕ) (λ xs. (length xs < n) × AllHave (Unit {0}) ℕ (Ranged 100000) nothing_more tt xs) (λ xs. (length xs < n) × AreAtMost 100000 xs) (flat_map (to_be_bytes w64)) (λ _. FailsNumber 8 0 100000 why.Range) (λ _. FailsNumber 8 0 100000 why.Range)
    (λ xs h. (h.0, numbers_known 100000 xs h.1)) (λ xs h. as_it_is (FailsNumber 8 0 100000 why.Range)))
    (behind_as (List ℕ) (λ xs. (length xs < n) × AreAtMost 100000 xs) (λ xs. (length xs < n) × AllHave (Unit {0}) ℕ (Ranged 100000) nothing_more tt xs) (flat_map (to_be_bytes w64)) (λ _. FailsNumber 8 0 100000 why.Range) (λ _. FailsNumber 8 0 100000 why.Range)
    (λ xs h. (h.0, numbers_ranged 100000 (omega arith) xs h.1)) (λ xs h. as_it_is (FailsNumber 8 0 100000 why.Range)))

pub counts_fail : FailsAs (List ℕ) counts_at (FailsCounted 1 1 8 (FailsCounts 100000))
unfolding counts_at
counts_fail = numbered_fail (List ℕ) w8 256 wide8 1 8 why.Range (numbers_at update_limit) (FailsCounts 100000) (omega arith) (λ n _. numbers_fail n)

-- ---- counts that are not below others

-- behind counts stands that of the next replica
replica_behind : (q : ℕ) (xs : List ℕ) → after next_replica q xs ≡ q + length xs
replica_behind q [] = omega arith
replica_behind q (x ∷ xs) = omega (arith, replica_behind (q + 1) xs)

abbrev FailsFrom : List ℕ → ℕ → Failure
FailsFrom from q = FailsNumber 8 (count_at from q) 100000 why.Range

at_replica : (from : List ℕ) (p q : ℕ) → p ≡ q → Implies (FailsFrom from p) (FailsFrom from q)
at_replica from p q is bytes place w f = subst (λ (n : ℕ). FailsFrom from n bytes place w) is f

later_fail : (from : List ℕ) → FailsAs (List ℕ) (later_counts_at from) (FailsLater from)
unfolding later_counts_at
later_fail from =
    fail_as (List ℕ) (later_counts_at from) (FailsNext ℕ ℕ (codecs.HasLater from) (to_be_bytes w64) next_replica (FailsFrom from) (length from) 0) (FailsLater from) (ranged_fail ℕ (count_at from) next_replica (length from) 0)
    (behind_as (List ℕ) (λ xs. (length xs < length from) × AllHave ℕ ℕ (codecs.HasLater from) next_replica 0 xs) (λ xs. (length xs < length from) × AreLater from xs) (flat_map (to_be_bytes w64)) (λ xs. FailsFrom from (after next_replica 0 xs)) (λ xs. FailsFrom from (length xs))
    (λ xs h. (h.0, known xs (codecs.later_known from 0 xs h.1))) (λ xs h. at_replica from (after next_replica 0 xs) (length xs) (omega (arith, replica_behind 0 xs))))
    (behind_as (List ℕ) (λ xs. (length xs < length from) × AreLater from xs) (λ xs. (length xs < length from) × AllHave ℕ ℕ (codecs.HasLater from) next_replica 0 xs) (flat_map (to_be_bytes w64)) (λ xs. FailsFrom from (length xs)) (λ xs. FailsFrom from (after next_replica 0 xs))
    (λ xs h. (h.0, codecs.later_ranged from 0 xs (h.1.each, λ j low. subst (λ (n : ℕ). count_at from n ≤ count_at xs j) (start j) (h.1.rises j low)))) (λ xs h. at_replica from (length xs) (after next_replica 0 xs) (omega (arith, replica_behind 0 xs))))
  where
    start : (j : ℕ) → j ≡ 0 + j
    start j = omega arith

    known : (xs : List ℕ) → codecs.AreLaterFrom from 0 xs → AreLater from xs
    known xs h = record { each = h.0; rises = λ j low. subst (λ (n : ℕ). count_at from n ≤ count_at xs j) (sym (start j)) (h.1 j low) }

pub span_fail : FailsAs Span span_at FailsSpan
unfolding span_at
span_fail =
    fail_as Span span_at (EitherFails (FailsCounted 1 1 8 (FailsCounts 100000)) (FailsBehind AreCounts spelled_all_counts FailsLater)) FailsSpan
    (both_fail (List ℕ) (List ℕ) AreCounts spelled_all_counts (FailsCounted 1 1 8 (FailsCounts 100000)) FailsLater counts_at later_counts_at counts_codec counts_fail (λ from _. later_fail from))
    (either_as _ _ _ _ (as_it_is (FailsCounted 1 1 8 (FailsCounts 100000))) (behind_as (List ℕ) AreCounts stuck.AreCounts spelled_all_counts FailsLater FailsLater (λ from h. record { nodes = h.0; each = h.1 }) (λ from h. as_it_is (FailsLater from))))
    (either_as _ _ _ _ (as_it_is (FailsCounted 1 1 8 (FailsCounts 100000))) (behind_as (List ℕ) stuck.AreCounts AreCounts spelled_all_counts FailsLater FailsLater (λ from h. (h.nodes, h.each)) (λ from h. as_it_is (FailsLater from))))
