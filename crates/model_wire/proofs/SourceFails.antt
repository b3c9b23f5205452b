-- Where counts, registers, names, sources and whole messages fail, in either version.
use Rattle.std.proofs.Common.{◌≡◌, ◌⊎◌, inl, inr, ℕ, zero, suc, ◌-◌, ◌<◌, true, eqb, List, [], ◌∷◌, length, Option, Result, Ok, Err, ℤ, refl, sym, ap, subst, ◌∙◌, arith}
use Rattle.std.specs.List.{AllByRecursion, flat_map}
use Rattle.std.specs.Int.{w8, w64, to_be_bytes}
use Rattle.std.proofs.lemmas.Bool.{eqb-true, eq-eqb, or_cases}
use Rattle.model_graph.specs.Chain.{◌>>=◌}
use Rattle.model_values.specs.Value.{Val}
use Rattle.model_values.specs.Row.{Row}
use Rattle.model_values.specs.Name.{is_name}
use Rattle.model_states.specs.Counts.{count_max}
use Rattle.model_graph.specs.Message.{Sent, Message}
use Rattle.model_wire.specs.declared.wire_why.WireWhy.{WireWhy}
use Rattle.model_wire.specs.declared.wire_why.WireWhy.TheVariants as why
use Rattle.model_wire.specs.Reader.{Reading, Reader, bytes_at, nothing_at, tested, both_at, counted, made, list_at, number_at, magic_at}
use Rattle.model_wire.specs.Value.{signed_at}
use Rattle.model_wire.specs.Message.{update_limit, rows_at, elements_at, limited_at, nothing_more, numbers_at, no_number, some_number, top_behind, top_at, Held, held_set, held_elements, held_counts, held_top, held_behind, held_at, name_at, source_made, source_at, any_source_at, nothing_of_sources, sources_at, counts_at, message_made, body_at, is_version, version_at, message_at, nothing_behind, read_message, placed, decoded_from, decoded}
use Rattle.model_wire.specs.Spelling.{spelled_source_in}
use Rattle.model_wire.specs.Lawful.{IsBytes, IsNodes, AreAtMost, IsSent}
use Rattle.model_wire.specs.Stuck.{Failure, EndsWithin, IsRefused, FailsBehind, EitherFails, FailsWhere, IsBetween, FailsNumber, FailsCounted, FailsTagged, FailsText, FailsByte, FailsAmong, FailsElements, FailsRows, FailsCounts, FailsTop, FailsState, spelled_name, FailsSource, FailsSources, AreCounts, spelled_all_counts, FailsBody, FailsVersion, FailsBeginning, beginning, IsStuck, in_beginning, in_body, behind_message}
use Rattle.model_wire.proofs.Codecs.{wide8, wide64, IsBelow, number_codec, AllHave}
use Rattle.model_wire.proofs.SourceLaws as sources
use Rattle.model_wire.proofs.MessageLaws as messages
use Rattle.model_wire.proofs.PrefixLaws.{behind_named, rest_before, before_refused}
use Rattle.model_wire.proofs.Failing.{FailsAs, counted_fail, made_fail, both_fail, tested_fail, FailsNext, list_fail, Implies, fail_as, either_as, refused_as, behind_as, spelled_as, as_it_is}
use Rattle.model_wire.proofs.FieldFails.{range_fail, numbered_fail, chars_fail, signed_fail, number_fail}
use Rattle.model_wire.proofs.SetFails.{rows_fail, elements_fail}

-- ---- counts

counts_fail : (most n : ℕ) → most < 18446744073709551616 → FailsAs (List ℕ) (numbers_at most n) (FailsCounts most n)
unfolding numbers_at
counts_fail most n small =
    fail_as (List ℕ) (list_at (limited_at most) nothing_more n tt) (FailsNext (Unit {0}) ℕ (sources.Ranged most) (to_be_bytes w64) nothing_more (λ _. FailsNumber 8 0 most why.Range) n tt) (FailsCounts most n)
    (list_fail (Unit {0}) ℕ (sources.Ranged most) (to_be_bytes w64) (λ _. FailsNumber 8 0 most why.Range) (limited_at most) nothing_more (λ _. sources.limited_codec most) (λ _. range_fail w64 18446744073709551616 wide64 0 most why.Range) n tt)
    (behind_as (List ℕ) (λ xs. (length xs < n) × AllHave (Unit {0}) ℕ (sources.Ranged most) nothing_more tt xs) (λ xs. (length xs < n) × AreAtMost most xs) (flat_map (to_be_bytes w64)) (λ _. FailsNumber 8 0 most why.Range) (λ _. FailsNumber 8 0 most why.Range)
    (λ xs h. (h.0, sources.numbers_known most xs h.1)) (λ xs h. as_it_is (FailsNumber 8 0 most why.Range)))
    (behind_as (List ℕ) (λ xs. (length xs < n) × AreAtMost most xs) (λ xs. (length xs < n) × AllHave (Unit {0}) ℕ (sources.Ranged most) nothing_more tt xs) (flat_map (to_be_bytes w64)) (λ _. FailsNumber 8 0 most why.Range) (λ _. FailsNumber 8 0 most why.Range)
    (λ xs h. (h.0, sources.numbers_ranged most small xs h.1)) (λ xs h. as_it_is (FailsNumber 8 0 most why.Range)))

-- ---- registers

abbrev Never : Failure
Never bytes place w = ⊥

nothing_fails : FailsAs (Unit {0}) nothing_at Never
nothing_fails = record { told = λ bytes e fits h. absurd (passes bytes e h); again = λ bytes place w f. absurd f }
  where
    passes : (bytes : List ℕ) (e : ℕ × WireWhy) → nothing_at bytes ≡ Err e → ⊥
    passes bytes e h = cc

top_behind_fails : (n : ℕ) → IsBetween 0 1 n → FailsAs (Option ℤ) (top_behind n) (FailsWhere (n ≡ 1) (EndsWithin 8))
top_behind_fails zero h =
    fail_as (Option ℤ) (top_behind zero) Never (FailsWhere (0 ≡ 1) (EndsWithin 8)) (made_fail (Unit {0}) (Option ℤ) no_number nothing_at Never nothing_fails)
    (λ bytes place w f. absurd f) (λ bytes place w f. absurd (omega (arith, f.0)))
top_behind_fails (suc zero) h =
    fail_as (Option ℤ) (top_behind 1) (EndsWithin 8) (FailsWhere (1 ≡ 1) (EndsWithin 8)) (made_fail ℤ (Option ℤ) some_number signed_at (EndsWithin 8) signed_fail)
    (λ bytes place w f. (refl, f)) (λ bytes place w f. f.1)
top_behind_fails (suc (suc n)) h = absurd (omega (arith, h.1))

top_fail : FailsAs (Option ℤ) top_at FailsTop
unfolding top_at
top_fail = numbered_fail (Option ℤ) w8 256 wide8 0 1 why.Kind top_behind (λ present. FailsWhere (present ≡ 1) (EndsWithin 8)) (omega arith) top_behind_fails

-- ---- what a source holds

abbrev One : ℕ → ℕ → ℕ → Failure
One version nodes kind = FailsWhere (kind ≡ 1) (FailsRows version nodes)

abbrev Two : ℕ → Failure
Two kind = FailsWhere (kind ≡ 2) FailsElements

abbrev Three : ℕ → ℕ → Failure
Three nodes kind = FailsWhere (kind ≡ 3) (FailsCounts count_max nodes)

abbrev Four : ℕ → Failure
Four kind = FailsWhere (kind ≡ 4) FailsTop

-- the one of these that the kind allows
only : (P : Failure) (k n : ℕ) → k ≡ n → Implies (FailsWhere (k ≡ n) P) P
only P k n is bytes place w f = f.1

no_other : (P Q : Failure) (k n m : ℕ) → k ≡ n → (n ≡ m → ⊥) → Implies (FailsWhere (k ≡ m) P) Q
no_other P Q k n m is other bytes place w f = absurd (other (sym is ∙ f.0))

either_back : (P Q R : Failure) → Implies P R → Implies Q R → Implies (EitherFails P Q) R
either_back P Q R p q bytes place w (inl f) = p bytes place w f
either_back P Q R p q bytes place w (inr f) = q bytes place w f

state_fail : (version nodes : ℕ) → (version ≡ 1) ⊎ (version ≡ 2) → IsNodes nodes → (k : ℕ) → IsBetween 1 4 k → FailsAs Held (held_behind version nodes k) (FailsState version nodes k)
state_fail version nodes v n zero h = absurd (omega (arith, h.0))
state_fail version nodes v n (suc zero) h =
    fail_as Held (made held_set (rows_at version nodes)) (FailsRows version nodes) (FailsState version nodes 1) (made_fail (List Row) Held held_set (rows_at version nodes) (FailsRows version nodes) (rows_fail version nodes v n))
    (λ bytes place w f. inl (refl, f))
    (either_back (One version nodes 1) (EitherFails (Two 1) (EitherFails (Three nodes 1) (Four 1))) (FailsRows version nodes) (only (FailsRows version nodes) 1 1 refl)
    (either_back (Two 1) (EitherFails (Three nodes 1) (Four 1)) (FailsRows version nodes) (no_other FailsElements (FailsRows version nodes) 1 1 2 refl (λ e. omega (arith, e)))
    (either_back (Three nodes 1) (Four 1) (FailsRows version nodes) (no_other (FailsCounts count_max nodes) (FailsRows version nodes) 1 1 3 refl (λ e. omega (arith, e))) (no_other FailsTop (FailsRows version nodes) 1 1 4 refl (λ e. omega (arith, e))))))
state_fail version nodes v n (suc (suc zero)) h =
    fail_as Held (made held_elements elements_at) FailsElements (FailsState version nodes 2) (made_fail (List Val) Held held_elements elements_at FailsElements elements_fail)
    (λ bytes place w f. inr (inl (refl, f)))
    (either_back (One version nodes 2) (EitherFails (Two 2) (EitherFails (Three nodes 2) (Four 2))) FailsElements (no_other (FailsRows version nodes) FailsElements 2 2 1 refl (λ e. omega (arith, e)))
    (either_back (Two 2) (EitherFails (Three nodes 2) (Four 2)) FailsElements (only FailsElements 2 2 refl)
    (either_back (Three nodes 2) (Four 2) FailsElements (no_other (FailsCounts count_max nodes) FailsElements 2 2 3 refl (λ e. omega (arith, e))) (no_other FailsTop FailsElements 2 2 4 refl (λ e. omega (arith, e))))))
state_fail version nodes v n (suc (suc (suc zero))) h =
    fail_as Held (made held_counts (numbers_at count_max nodes)) (FailsCounts count_max nodes) (FailsState version nodes 3) (made_fail (List ℕ) Held held_counts (numbers_at count_max nodes) (FailsCounts count_max nodes) (counts_fail count_max nodes (omega arith)))
    (λ bytes place w f. inr (inr (inl (refl, f))))
    (either_back (One version nodes 3) (EitherFails (Two 3) (EitherFails (Three nodes 3) (Four 3))) (FailsCounts count_max nodes) (no_other (FailsRows version nodes) (FailsCounts count_max nodes) 3 3 1 refl (λ e. omega (arith, e)))
    (either_back (Two 3) (EitherFails (Three nodes 3) (Four 3)) (FailsCounts count_max nodes) (no_other FailsElements (FailsCounts count_max nodes) 3 3 2 refl (λ e. omega (arith, e)))
    (either_back (Three nodes 3) (Four 3) (FailsCounts count_max nodes) (only (FailsCounts count_max nodes) 3 3 refl) (no_other FailsTop (FailsCounts count_max nodes) 3 3 4 refl (λ e. omega (arith, e))))))
state_fail version nodes v n (suc (suc (suc (suc zero)))) h =
    fail_as Held (made held_top top_at) FailsTop (FailsState version nodes 4) (made_fail (Option ℤ) Held held_top top_at FailsTop top_fail)
    (λ bytes place w f. inr (inr (inr (refl, f))))
    (either_back (One version nodes 4) (EitherFails (Two 4) (EitherFails (Three nodes 4) (Four 4))) FailsTop (no_other (FailsRows version nodes) FailsTop 4 4 1 refl (λ e. omega (arith, e)))
    (either_back (Two 4) (EitherFails (Three nodes 4) (Four 4)) FailsTop (no_other FailsElements FailsTop 4 4 2 refl (λ e. omega (arith, e)))
    (either_back (Three nodes 4) (Four 4) FailsTop (no_other (FailsCounts count_max nodes) FailsTop 4 4 3 refl (λ e. omega (arith, e))) (only FailsTop 4 4 refl))))
state_fail version nodes v n (suc (suc (suc (suc (suc k))))) h = absurd (omega (arith, h.1))

held_fail : (version nodes : ℕ) → (version ≡ 1) ⊎ (version ≡ 2) → IsNodes nodes → FailsAs Held (held_at version nodes) (FailsTagged 1 4 (FailsState version nodes))
unfolding held_at
held_fail version nodes v n = numbered_fail Held w8 256 wide8 1 4 why.Kind (held_behind version nodes) (FailsState version nodes) (omega arith) (state_fail version nodes v n)

-- ---- names and sources

name_fail : FailsAs (List ℕ) name_at (FailsCounted 1 1 32 (FailsText is_name))
unfolding name_at
name_fail = numbered_fail (List ℕ) w8 256 wide8 1 32 why.Range (λ n. tested (bytes_at n) is_name why.Text) (FailsText is_name) (omega arith) (λ n _. chars_fail is_name n)

source_fail : (version nodes : ℕ) → (version ≡ 1) ⊎ (version ≡ 2) → IsNodes nodes → FailsAs Sent (source_at version nodes) (FailsSource version nodes)
unfolding source_at
source_fail version nodes v n =
    made_fail (List ℕ × Held) Sent source_made (both_at name_at (λ _. held_at version nodes)) (FailsSource version nodes)
    (both_fail (List ℕ) Held sources.IsName spelled_name (FailsCounted 1 1 32 (FailsText is_name)) (λ _. FailsTagged 1 4 (FailsState version nodes)) name_at (λ _. held_at version nodes) sources.name_codec name_fail
    (λ _ _. held_fail version nodes v n))

sources_fail : (version nodes : ℕ) → (version ≡ 1) ⊎ (version ≡ 2) → IsNodes nodes → FailsAs (List Sent) (sources_at version nodes) (FailsSources version nodes)
unfolding sources_at
sources_fail version nodes v n =
    numbered_fail (List Sent) w8 256 wide8 0 64 why.Range (λ m. list_at (any_source_at version nodes) nothing_of_sources m tt) (λ m. FailsAmong m (AllByRecursion (IsSent nodes)) (spelled_source_in version) (λ _. FailsSource version nodes)) (omega arith)
    (λ m _. fail_as (List Sent) (list_at (any_source_at version nodes) nothing_of_sources m tt)
    (FailsNext (Unit {0}) Sent (messages.SentHas nodes) (spelled_source_in version) nothing_of_sources (λ _. FailsSource version nodes) m tt) (FailsAmong m (AllByRecursion (IsSent nodes)) (spelled_source_in version) (λ _. FailsSource version nodes))
    (list_fail (Unit {0}) Sent (messages.SentHas nodes) (spelled_source_in version) (λ _. FailsSource version nodes) (any_source_at version nodes) nothing_of_sources (λ _. sources.source_codec version nodes n) (λ _. source_fail version nodes v n) m tt)
    (behind_as (List Sent) (λ xs. (length xs < m) × AllHave (Unit {0}) Sent (messages.SentHas nodes) nothing_of_sources tt xs) (λ xs. (length xs < m) × AllByRecursion (IsSent nodes) xs) (flat_map (spelled_source_in version)) (λ _. FailsSource version nodes) (λ _. FailsSource version nodes)
    (λ xs h. (h.0, messages.all_sent nodes xs h.1)) (λ xs h. as_it_is (FailsSource version nodes)))
    (behind_as (List Sent) (λ xs. (length xs < m) × AllByRecursion (IsSent nodes) xs) (λ xs. (length xs < m) × AllHave (Unit {0}) Sent (messages.SentHas nodes) nothing_of_sources tt xs) (flat_map (spelled_source_in version)) (λ _. FailsSource version nodes) (λ _. FailsSource version nodes)
    (λ xs h. (h.0, messages.sent_all nodes xs h.1)) (λ xs h. as_it_is (FailsSource version nodes))))

-- ---- messages

all_counts_fail : FailsAs (List ℕ) counts_at (FailsCounted 1 1 8 (FailsCounts 100000))
unfolding counts_at
all_counts_fail = numbered_fail (List ℕ) w8 256 wide8 1 8 why.Range (numbers_at update_limit) (FailsCounts 100000) (omega arith) (λ n _. counts_fail 100000 n (omega arith))

body_fail : (version : ℕ) → (version ≡ 1) ⊎ (version ≡ 2) → FailsAs Message (body_at version) (FailsBody version)
unfolding body_at
body_fail version v =
    made_fail (List ℕ × List Sent) Message message_made (both_at counts_at (λ counts. sources_at version (length counts))) (FailsBody version)
    (fail_as (List ℕ × List Sent) (both_at counts_at (λ counts. sources_at version (length counts)))
    (EitherFails (FailsCounted 1 1 8 (FailsCounts 100000)) (FailsBehind messages.AreCounts spelled_all_counts (λ counts. FailsSources version (length counts)))) (FailsBody version)
    (both_fail (List ℕ) (List Sent) messages.AreCounts spelled_all_counts (FailsCounted 1 1 8 (FailsCounts 100000)) (λ counts. FailsSources version (length counts)) counts_at (λ counts. sources_at version (length counts)) messages.counts_codec all_counts_fail
    (λ counts h. sources_fail version (length counts) v h.0))
    (either_as _ _ _ _ (as_it_is (FailsCounted 1 1 8 (FailsCounts 100000)))
    (behind_as (List ℕ) messages.AreCounts AreCounts spelled_all_counts (λ counts. FailsSources version (length counts)) (λ counts. FailsSources version (length counts)) (λ counts h. record { nodes = h.0; each = h.1 }) (λ counts h. as_it_is (FailsSources version (length counts)))))
    (either_as _ _ _ _ (as_it_is (FailsCounted 1 1 8 (FailsCounts 100000)))
    (behind_as (List ℕ) AreCounts messages.AreCounts spelled_all_counts (λ counts. FailsSources version (length counts)) (λ counts. FailsSources version (length counts)) (λ counts h. (h.nodes, h.each)) (λ counts h. as_it_is (FailsSources version (length counts))))))

-- a byte that has to be b
abbrev pub FailsAt : (ℕ → Type 0) → Failure
FailsAt May = EitherFails (EndsWithin 1) (IsRefused (IsBelow 256) (to_be_bytes w8) May why.Magic)

pub magic_fail : (b : ℕ) → FailsAs ℕ (magic_at b) (FailsAt (λ n. n ≡ b))
magic_fail b =
    fail_as ℕ (magic_at b) (FailsAt (λ n. eqb n b ≡ true)) (FailsAt (λ n. n ≡ b)) (tested_fail ℕ (IsBelow 256) (to_be_bytes w8) (EndsWithin 1) (number_at w8) (λ n. eqb n b) why.Magic (number_codec w8 256 wide8) (number_fail w8))
    (either_as _ _ _ _ (as_it_is (EndsWithin 1)) (refused_as ℕ (IsBelow 256) (IsBelow 256) (to_be_bytes w8) (λ n. eqb n b ≡ true) (λ n. n ≡ b) why.Magic (λ n h. h) (λ n _ h. eq-eqb n b h)))
    (either_as _ _ _ _ (as_it_is (EndsWithin 1)) (refused_as ℕ (IsBelow 256) (IsBelow 256) (to_be_bytes w8) (λ n. n ≡ b) (λ n. eqb n b ≡ true) why.Magic (λ n h. h) (λ n _ h. eqb-true n b h)))

pub byte_fail : (b : ℕ) (next : Reader ℕ) (Next : Failure) → b < 256 → FailsAs ℕ next Next → FailsAs ℕ (counted (magic_at b) (λ _. next)) (FailsByte b Next)
byte_fail b next Next small h =
    fail_as ℕ (counted (magic_at b) (λ _. next)) (EitherFails (FailsAt (λ n. n ≡ b)) (FailsBehind (messages.Magic b) (to_be_bytes w8) (λ _. Next))) (FailsByte b Next)
    (counted_fail ℕ ℕ (messages.Magic b) (to_be_bytes w8) (FailsAt (λ n. n ≡ b)) (λ _. Next) (magic_at b) (λ _. next) (messages.magic_codec b) (magic_fail b) (λ _ _. h))
    (either_as _ _ _ _ (as_it_is (FailsAt (λ n. n ≡ b))) (behind_as ℕ (messages.Magic b) (λ n. n ≡ b) (to_be_bytes w8) (λ _. Next) (λ _. Next) (λ n k. eqb-true n b k.1) (λ n k. as_it_is Next)))
    (either_as _ _ _ _ (as_it_is (FailsAt (λ n. n ≡ b))) (behind_as ℕ (λ n. n ≡ b) (messages.Magic b) (to_be_bytes w8) (λ _. Next) (λ _. Next) (λ n k. (omega (arith, k, small), eq-eqb n b k)) (λ n k. as_it_is Next)))

version_fail : FailsAs ℕ version_at FailsBeginning
unfolding version_at
version_fail =
    byte_fail 76 _ _ (omega arith) (byte_fail 65 _ _ (omega arith) (byte_fail 83 _ _ (omega arith) (byte_fail 80 (tested (number_at w8) is_version why.Magic) FailsVersion (omega arith)
    (tested_fail ℕ (IsBelow 256) (to_be_bytes w8) (EndsWithin 1) (number_at w8) is_version why.Magic (number_codec w8 256 wide8) (number_fail w8)))))

version_is : (v : ℕ) → is_version v ≡ true → (v ≡ 1) ⊎ (v ≡ 2)
version_is v h = by (or_cases (eqb v 1) (eqb v 2) h)
  where
    by : (eqb v 1 ≡ true) ⊎ (eqb v 2 ≡ true) → (v ≡ 1) ⊎ (v ≡ 2)
    by (inl e) = inl (eqb-true v 1 e)
    by (inr e) = inr (eqb-true v 2 e)

abbrev FailsMessage : Failure
FailsMessage = EitherFails FailsBeginning (FailsBehind messages.IsVersion beginning FailsBody)

message_fail : FailsAs (ℕ × Message) message_at FailsMessage
unfolding message_at
message_fail =
    fail_as (ℕ × Message) (both_at version_at body_at) (EitherFails FailsBeginning (FailsBehind messages.IsVersion messages.spelled_version FailsBody)) FailsMessage
    (both_fail ℕ Message messages.IsVersion messages.spelled_version FailsBeginning FailsBody version_at body_at messages.version_codec version_fail (λ v h. body_fail v (version_is v h)))
    (either_as _ _ _ _ (as_it_is FailsBeginning) (spelled_as ℕ messages.IsVersion messages.spelled_version beginning FailsBody (λ v h. messages.beginning_is v h)))
    (either_as _ _ _ _ (as_it_is FailsBeginning) (spelled_as ℕ messages.IsVersion beginning messages.spelled_version FailsBody (λ v h. sym (messages.beginning_is v h))))

-- ---- all of the bytes

stuck_in : (bytes : List ℕ) (place : ℕ) (w : WireWhy) → FailsMessage bytes place w → IsStuck bytes place w
stuck_in bytes place w (inl f) = in_beginning f
stuck_in bytes place w (inr f) = in_body f

refusal-is : (p q : ℕ × WireWhy) (r : Result Message (ℕ × WireWhy)) → r ≡ Err p → r ≡ Err q → p ≡ q
refusal-is p q r h k = cc

pub told_stuck : (bytes : List ℕ) (place : ℕ) (w : WireWhy) → IsBytes bytes → decoded bytes ≡ Err (place, w) → IsStuck bytes place w
unfolding decoded read_message
told_stuck bytes place w fits h = by (message_at bytes) refl h
  where
    by : (r : Reading (ℕ × Message)) → message_at bytes ≡ r → decoded_from bytes (r >>= nothing_behind) ≡ Err (place, w) → IsStuck bytes place w
    by (Ok (l, [])) same k = absurd cc
    by (Ok (l, b ∷ rest)) same k =
        let is : (length bytes - length (b ∷ rest), why.Rest) ≡ (place, w) = refusal-is _ _ (Err (length bytes - length (b ∷ rest), why.Rest)) refl (sym (ap (decoded_from bytes) (behind_named l b rest)) ∙ k) in
        let cause : why.Rest ≡ w = ap (λ (e : ℕ × WireWhy). e.1) is in
        behind_message (record { message = rest_before bytes place fits (subst (λ (v : WireWhy). decoded bytes ≡ Err (place, v)) (sym cause) h); cause = sym cause })
    by (Err e) same k =
        let is : placed bytes e ≡ (place, w) = refusal-is (placed bytes e) (place, w) (Err (placed bytes e)) refl k in
        subst (λ (p : ℕ × WireWhy). IsStuck bytes p.0 p.1) is (stuck_in bytes (length bytes - e.0) e.1 (message_fail.told bytes e fits same).fails)

fails_decoded : (bytes : List ℕ) (place : ℕ) (w : WireWhy) → FailsMessage bytes place w → decoded bytes ≡ Err (place, w)
unfolding decoded read_message
fails_decoded bytes place w f =
    let a = message_fail.again bytes place w f in
    ap (λ (r : Reading (ℕ × Message)). decoded_from bytes (r >>= nothing_behind)) a.refused ∙ ap (λ (n : ℕ). refused n) (omega (arith, a.within))
  where
    refused : ℕ → Result Message (ℕ × WireWhy)
    refused n = Err (n, w)

pub stuck_refused : (bytes : List ℕ) (place : ℕ) (w : WireWhy) → IsStuck bytes place w → decoded bytes ≡ Err (place, w)
stuck_refused bytes place w (in_beginning f) = fails_decoded bytes place w (inl f)
stuck_refused bytes place w (in_body f) = fails_decoded bytes place w (inr f)
stuck_refused bytes place w (behind_message f) = subst (λ (v : WireWhy). decoded bytes ≡ Err (place, v)) (sym f.cause) (before_refused bytes place f.message)
