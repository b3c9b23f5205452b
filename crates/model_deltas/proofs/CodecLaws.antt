-- Deltas beside their spellings.
use Rattle.std.proofs.Common.{◌≡◌, ℕ, zero, suc, ◌+◌, ◌<◌, ◌≤◌, eqb, List, [], ◌∷◌, ◌++◌, length, Ok, ◌⊎◌, inl, inr, refl, sym, ap, subst, ◌∙◌, append_assoc, append-nil, arith, add-zero}
use Rattle.std.specs.List.{AllByRecursion, flat_map}
use Rattle.std.specs.Int.{w8, w64, to_be_bytes}
use Rattle.std.proofs.lemmas.Bool.{eqb-true, eq-eqb}
use Rattle.std.proofs.lemmas.List.{nil_from_length}
use Rattle.model_graph.specs.Chain.{◌>>=◌}
use Rattle.model_graph.proofs.PlaceLaws.{below-or-not, at-past}
use Rattle.model_states.specs.Counts.{count_at, AreCountsAtMost}
use Rattle.model_graph.specs.Message.{Sent}
use Rattle.model_graph.specs.Spelling.{spelled_counts, spelled_source}
use Rattle.model_wire.specs.declared.wire_why.WireWhy.TheVariants as why
use Rattle.model_wire.specs.Reader.{Reading, both_at, counted, list_at, magic_at}
use Rattle.model_wire.specs.Message.{sources_at, counts_at, decoded_from}
use Rattle.model_wire.specs.Lawful.{IsNodes, AreAtMost, IsSent}
use Rattle.model_wire.proofs.Codecs.{IsBytes, IsCodec, wide64, HasBoth, spell_both, both_codec, HasCounted, counted_codec, made_codec, has_codec, AllHave, HasMany, list_codec, passed, test_passed}
use Rattle.model_wire.proofs.ValueLaws.{HasRange, ranged_codec, within_range, in_range}
use Rattle.model_wire.proofs.MessageLaws.{AreCounts, spelled_all_counts, counts_codec, AreSources, spelled_sources, sources_codec, Magic, magic_codec, behind_magic, sources_written, decoded_from-ok}
use Rattle.model_deltas.specs.Delta.{Delta}
use Rattle.model_deltas.specs.Before.{IsDelta}
use Rattle.model_deltas.specs.Spelling.{spelled_delta}
use Rattle.model_deltas.specs.Reader.{later_count_at, next_replica, later_counts_at, Span, span_at, delta_made, delta_body_at, delta_version_at, delta_at, nothing_behind_it, read_delta, decoded_delta}
use Rattle.model_world.proofs.StopLaws.{shifted}

-- ---- counts that are not below others

abbrev pub HasLater : List ℕ → ℕ → ℕ → Type 0
HasLater from q = HasRange 18446744073709551616 (count_at from q) 100000

-- the counts are in their ranges from replica q on
abbrev pub AreLaterFrom : List ℕ → ℕ → List ℕ → Type 0
AreLaterFrom from q counts = AreAtMost 100000 counts × ((j : ℕ) → j < length counts → count_at from (q + j) ≤ count_at counts j)

pub later_known : (from : List ℕ) (q : ℕ) (xs : List ℕ) → AllHave ℕ ℕ (HasLater from) next_replica q xs → AreLaterFrom from q xs
later_known from q [] h = (tt, λ j low. absurd (omega (arith, low)))
later_known from q (x ∷ xs) h = after (within_range (count_at from q) 100000 x h.0.1) (later_known from (q + 1) xs h.1) where
  after : (count_at from q ≤ x) × (x ≤ 100000) → AreLaterFrom from (q + 1) xs → AreLaterFrom from q (x ∷ xs)
  after range rest = ((range.1, rest.0), each) where
    each : (j : ℕ) → j < suc (length xs) → count_at from (q + j) ≤ count_at (x ∷ xs) j
    each zero low = subst (λ (n : ℕ). count_at from n ≤ x) ((sym (add-zero q))) range.0
    each (suc j) low = subst (λ (n : ℕ). count_at from n ≤ count_at xs j) (shifted q j) (rest.1 j (omega (arith, low)))

pub later_ranged : (from : List ℕ) (q : ℕ) (xs : List ℕ) → AreLaterFrom from q xs → AllHave ℕ ℕ (HasLater from) next_replica q xs
later_ranged from q [] h = tt
later_ranged from q (x ∷ xs) h =
    let low : count_at from q ≤ x = subst (λ (n : ℕ). count_at from n ≤ x) (sym ((sym (add-zero q)))) (h.1 0 (omega arith)) in (
      (omega (arith, h.0.0), in_range (count_at from q) 100000 x low h.0.0),
      later_ranged from (q + 1) xs (h.0.1, λ j small. subst (λ (n : ℕ). count_at from n ≤ count_at xs j) (sym (shifted q j)) (h.1 (suc j) (omega (arith, small)))),
    )

abbrev pub AreLater : List ℕ → List ℕ → Type 0
AreLater from counts = (length counts ≡ length from) × AreAtMost 100000 counts × AreCountsAtMost from counts

all-later : (from counts : List ℕ) → HasMany ℕ ℕ (HasLater from) next_replica (length from) 0 counts → AreLater from counts
all-later from counts h = (h.0, known.0, each) where
  known : AreLaterFrom from 0 counts
  known = later_known from 0 counts h.1

  each : (j : ℕ) → count_at from j ≤ count_at counts j
  each j = choose (below-or-not j (length counts)) where
    choose : (j < length counts) ⊎ (length counts ≤ j) → count_at from j ≤ count_at counts j
    choose (inl low) = subst (λ (n : ℕ). count_at from n ≤ count_at counts j) (let start : 0 + j ≡ j = omega arith in start) (known.1 j low)
    choose (inr past) = let nothing : count_at from j ≡ 0 = at-past from j 0 (omega (arith, past, h.0)) in omega (arith, nothing)

later-all : (from counts : List ℕ) → AreLater from counts → HasMany ℕ ℕ (HasLater from) next_replica (length from) 0 counts
later-all from counts h =
    (h.0, later_ranged from 0 counts (h.1, λ j low. subst (λ (n : ℕ). count_at from n ≤ count_at counts j) (let start : j ≡ 0 + j = omega arith in start) (h.2 j)))

later_codec : (from : List ℕ) → IsCodec (List ℕ) (AreLater from) spelled_counts (later_counts_at from)
unfolding later_counts_at
later_codec from =
    has_codec (List ℕ) (HasMany ℕ ℕ (HasLater from) next_replica (length from) 0) (AreLater from) spelled_counts (list_at (later_count_at from) next_replica (length from) 0)
    (list_codec ℕ ℕ (HasLater from) (to_be_bytes w64) (later_count_at from) next_replica (λ q. ranged_codec w64 18446744073709551616 wide64 (count_at from q) 100000) (length from) 0)
    (all-later from) (later-all from)

-- ---- what stands behind the version

abbrev pub SpanHas : Span → Type 0
SpanHas = HasBoth (List ℕ) (List ℕ) AreCounts AreLater

abbrev pub spelled_span : Span → List ℕ
spelled_span = spell_both (List ℕ) (List ℕ) spelled_all_counts spelled_counts

pub span_codec : IsCodec Span SpanHas spelled_span span_at
unfolding span_at
span_codec = both_codec (List ℕ) (List ℕ) AreCounts AreLater spelled_all_counts spelled_counts counts_at later_counts_at counts_codec (λ from _. later_codec from)

abbrev BodyHas : Span × List Sent → Type 0
BodyHas = HasBoth Span (List Sent) SpanHas (λ span. AreSources (length span.0))

abbrev spelled_body : Delta → List ℕ
spelled_body d = (spelled_all_counts d.from ++ spelled_counts d.counts) ++ spelled_sources 2 d.sources

-- the counts below others are in the range of those
below-others : (most : ℕ) (s t : List ℕ) → AreCountsAtMost s t → AreAtMost most t → length s ≡ length t → AreAtMost most s
below-others most [] t h g e = tt
below-others most (c ∷ s) [] h g e = absurd (omega (arith, e))
below-others most (c ∷ s) (d ∷ t) h g e = (omega (arith, h 0, g.0), below-others most s t (λ j. h (suc j)) g.1 (omega (arith, e)))

made-delta : (p : Span × List Sent) → BodyHas p → IsDelta (delta_made p)
made-delta p h =
    let long = h.0.1.0 in
    record {
      nodes = subst IsNodes (sym long) h.0.0.0;
      wide = sym long;
      counts = h.0.1.1;
      rises = h.0.1.2;
      few = h.1.0;
      sources = subst (λ (n : ℕ). AllByRecursion (IsSent n) p.1) (sym long) h.1.1;
    }

delta-parts : (d : Delta) → IsDelta d → BodyHas ((d.from, d.counts), d.sources)
delta-parts d h =
    (((subst IsNodes (sym h.wide) h.nodes, below-others 100000 d.from d.counts h.rises h.counts h.wide), (sym h.wide, h.counts, h.rises)), (h.few, subst (λ (n : ℕ). AllByRecursion (IsSent n) d.sources) (sym h.wide) h.sources))

delta_body_codec : IsCodec Delta IsDelta spelled_body delta_body_at
unfolding delta_body_at
delta_body_codec =
    made_codec (Span × List Sent) Delta BodyHas IsDelta (spell_both Span (List Sent) spelled_span (spelled_sources 2)) spelled_body delta_made (λ d. ((d.from, d.counts), d.sources))
    (both_at span_at (λ span. sources_at 2 (length span.0)))
    (both_codec Span (List Sent) SpanHas (λ span. AreSources (length span.0)) spelled_span (spelled_sources 2) span_at (λ span. sources_at 2 (length span.0)) span_codec (λ span h. sources_codec 2 (length span.0) h.0.0))
    (record { has = made-delta; spelled = λ p h. refl; has_parts = delta-parts; remakes = λ d h. refl })

-- ---- the version

abbrev pub spelled_version : ℕ → List ℕ
spelled_version v = to_be_bytes w8 76 ++ (to_be_bytes w8 65 ++ (to_be_bytes w8 83 ++ (to_be_bytes w8 68 ++ to_be_bytes w8 v)))

pub version_codec : IsCodec ℕ (Magic 1) spelled_version delta_version_at
unfolding delta_version_at
version_codec =
    behind_magic 76 (Magic 1) _ _ (omega arith) (behind_magic 65 (Magic 1) _ _ (omega arith) (behind_magic 83 (Magic 1) _ _ (omega arith) (behind_magic 68 (Magic 1) (to_be_bytes w8) (magic_at 1) (omega arith) (magic_codec 1))))

abbrev pub spelled_parts : Delta → List ℕ
spelled_parts d = spelled_version 1 ++ spelled_body d

pub delta_codec : IsCodec Delta IsDelta spelled_parts delta_at
unfolding delta_at
delta_codec =
    has_codec Delta (HasCounted ℕ Delta (Magic 1) (λ _. 1) (λ _. IsDelta)) IsDelta spelled_parts (counted delta_version_at (λ _. delta_body_at))
    (counted_codec ℕ Delta (Magic 1) (λ _. IsDelta) spelled_version spelled_body (λ _. 1) delta_version_at (λ _. delta_body_at) version_codec (λ _ _. delta_body_codec) (λ x d h _. sym (eqb-true x 1 h.1)))
    (λ d h. h.1) (λ d h. ((omega arith, eq-eqb 1 1 refl), h))

regroup : (a n f c k s : List ℕ) → ((((a ++ n) ++ f) ++ c) ++ k) ++ s ≡ a ++ (((n ++ f) ++ c) ++ (k ++ s))
regroup a n f c k s =
    append_assoc (((a ++ n) ++ f) ++ c) k s ∙ append_assoc ((a ++ n) ++ f) c (k ++ s) ∙ append_assoc (a ++ n) f (c ++ (k ++ s)) ∙ append_assoc a n (f ++ (c ++ (k ++ s)))
    ∙ ap (λ (t : List ℕ). a ++ t) (sym (append_assoc (n ++ f) c (k ++ s) ∙ append_assoc n f (c ++ (k ++ s))))

-- the definition's spelling puts the parts together from the front
pub delta_spelled : (d : Delta) → spelled_delta d ≡ spelled_parts d
unfolding spelled_delta
delta_spelled d =
    regroup (76 ∷ 65 ∷ 83 ∷ 68 ∷ 1 ∷ []) (to_be_bytes w8 (length d.from)) (spelled_counts d.from) (spelled_counts d.counts) (to_be_bytes w8 (length d.sources)) (flat_map spelled_source d.sources)
    ∙ ap (λ (t : List ℕ). spelled_version 1 ++ ((spelled_all_counts d.from ++ spelled_counts d.counts) ++ (to_be_bytes w8 (length d.sources) ++ t))) (sym (sources_written d.sources))

-- ---- all of the bytes

read_known : (bytes : List ℕ) (d : Delta) → IsBytes bytes → read_delta bytes ≡ Ok d → IsDelta d × (bytes ≡ spelled_delta d)
unfolding read_delta
read_known bytes d fits e =
    let a = passed (delta_at bytes) nothing_behind_it d e in
    let t = delta_codec.took bytes a.value fits a.first in
    let g = test_passed (eqb (length a.value.1) 0) (length a.value.1, why.Rest) a.value.0 d a.then in
    let none : a.value.1 ≡ [] = nil_from_length a.value.1 (eqb-true (length a.value.1) 0 g.0) in
    let all : bytes ≡ spelled_parts a.value.0 = t.0.parts ∙ ap (λ (r : List ℕ). spelled_parts a.value.0 ++ r) none ∙ append-nil (spelled_parts a.value.0) in
    subst (λ (e : Delta). IsDelta e × (bytes ≡ spelled_delta e)) g.1 (t.1, all ∙ sym (delta_spelled a.value.0))

known_read : (d : Delta) → IsDelta d → read_delta (spelled_delta d) ≡ Ok d
unfolding read_delta
known_read d has =
    let one : delta_at (spelled_parts d) ≡ Ok (d, []) = ap delta_at (sym (append-nil (spelled_parts d))) ∙ delta_codec.again d [] has in
    ap (λ (b : List ℕ). delta_at b >>= nothing_behind_it) (delta_spelled d) ∙ ap (λ (r : Reading Delta). r >>= nothing_behind_it) one

pub decoded_known : (bytes : List ℕ) (d : Delta) → IsBytes bytes → decoded_delta bytes ≡ Ok d → IsDelta d × (bytes ≡ spelled_delta d)
unfolding decoded_delta
decoded_known bytes d fits e = read_known bytes d fits (decoded_from-ok bytes (read_delta bytes) d e)

pub known_decoded : (d : Delta) → IsDelta d → decoded_delta (spelled_delta d) ≡ Ok d
unfolding decoded_delta
known_decoded d has = ap (decoded_from (spelled_delta d)) (known_read d has)

-- ---- no spelling begins another

abbrev read_ok : Delta × List ℕ → Reading Delta
read_ok x = Ok x

pub no_prefix : (d e : Delta) (more : List ℕ) → IsDelta d → IsDelta e → spelled_delta d ++ more ≡ spelled_delta e → more ≡ []
no_prefix d e more hd he same =
    let one : delta_at (spelled_parts d ++ more) ≡ Ok (d, more) = delta_codec.again d more hd in
    let other : delta_at (spelled_parts e ++ []) ≡ Ok (e, []) = delta_codec.again e [] he in
    let text : spelled_parts d ++ more ≡ spelled_parts e ++ [] = ap (λ (t : List ℕ). t ++ more) (sym (delta_spelled d)) ∙ same ∙ delta_spelled e ∙ sym (append-nil (spelled_parts e)) in
    rest_is (d, more) (e, []) (sym one ∙ ap delta_at text ∙ other)
  where
    rest_is : (x y : Delta × List ℕ) → read_ok x ≡ read_ok y → x.1 ≡ y.1
    rest_is x y e = cc
