-- Whole messages beside their spellings, in either version.
use Rattle.std.proofs.Common.{◌≡◌, ℕ, ◌<◌, ◌≤◌, true, eqb, List, [], ◌∷◌, ◌++◌, length, Result, Ok, Err, refl, sym, ap, subst, ◌∙◌, append_assoc, append-nil, arith, inl, inr}
use Rattle.std.specs.List.{AllByRecursion, flat_map}
use Rattle.std.specs.Int.{w8, to_be_bytes}
use Rattle.std.proofs.lemmas.Bool.{eqb-true, eq-eqb, or_cases}
use Rattle.std.proofs.lemmas.List.{nil_from_length}
use Rattle.model_graph.specs.Chain.{◌>>=◌}
use Rattle.model_graph.specs.Graph.{Kind, OrSet, GSet, Counter, MaxReg, Union, Product, Intersection, Map, Filter, Fold}
use Rattle.model_states.specs.Content.{Content}
use Rattle.model_graph.specs.Message.{Sent, Message}
use Rattle.model_graph.specs.Spelling.{number, spelled_counts, spelled_content, spelled_source, spelled}
use Rattle.model_wire.specs.declared.wire_why.WireWhy.{WireWhy}
use Rattle.model_wire.specs.declared.wire_why.WireWhy.TheVariants as why
use Rattle.model_wire.specs.Reader.{Reading, Reader, tested, paired, both_at, counted, list_at, number_at, ranged_at, magic_at}
use Rattle.model_wire.specs.Message.{update_limit, source_limit, numbers_at, any_source_at, nothing_of_sources, sources_at, nodes_at, counts_at, message_made, body_at, is_version, version_at, message_at, nothing_behind, read_message, decoded_from, decoded}
use Rattle.model_wire.specs.Spelling.{spelled_content_in, spelled_source_in, spelled_in}
use Rattle.model_wire.specs.Lawful.{IsNodes, AreAtMost, IsSent, IsMessage, IsSpelledSo}
use Rattle.model_wire.proofs.Codecs.{IsBytes, Takes, takes_both, IsCodec, wide8, IsBelow, number_codec, HasTested, tested_codec, HasBoth, spell_both, both_codec, spell_counted, HasCounted, counted_codec, made_codec, has_codec, AllHave, HasMany, spell_all, list_codec, passed, test_passed}
use Rattle.model_wire.proofs.ValueLaws.{HasRange, ranged_codec, within_range, in_range}
use Rattle.model_wire.proofs.SourceLaws.{HasNumbers, numbers_codec, source_codec}

-- ---- counts

abbrev CountsHad : List ℕ → Type 0
CountsHad = HasCounted ℕ (List ℕ) (HasRange 256 1 8) length (HasNumbers 100000)

abbrev pub AreCounts : List ℕ → Type 0
AreCounts counts = IsNodes (length counts) × AreAtMost 100000 counts

abbrev pub spelled_all_counts : List ℕ → List ℕ
spelled_all_counts = spell_counted ℕ (List ℕ) (to_be_bytes w8) length spelled_counts

pub counts_codec : IsCodec (List ℕ) AreCounts spelled_all_counts counts_at
unfolding counts_at
counts_codec =
    has_codec (List ℕ) CountsHad AreCounts spelled_all_counts counts_at
    (counted_codec ℕ (List ℕ) (HasRange 256 1 8) (HasNumbers 100000) (to_be_bytes w8) spelled_counts length nodes_at (numbers_at update_limit) (ranged_codec w8 256 wide8 1 8)
    (λ n _. numbers_codec 100000 n (omega arith)) (λ n counts _ h. h.0))
    (λ counts h. let range = within_range 1 8 (length counts) h.0.1 in (record { some = range.0; few = range.1 }, h.1.1))
    (λ counts h. ((omega (arith, h.0.few), in_range 1 8 (length counts) h.0.some h.0.few), (refl, h.1)))

-- ---- sources

abbrev pub SentHas : ℕ → Unit {0} → Sent → Type 0
SentHas nodes _ = IsSent nodes

pub all_sent : (nodes : ℕ) (xs : List Sent) → AllHave (Unit {0}) Sent (SentHas nodes) nothing_of_sources tt xs → AllByRecursion (IsSent nodes) xs
all_sent nodes [] h = tt
all_sent nodes (x ∷ xs) h = (h.0, all_sent nodes xs h.1)

pub sent_all : (nodes : ℕ) (xs : List Sent) → AllByRecursion (IsSent nodes) xs → AllHave (Unit {0}) Sent (SentHas nodes) nothing_of_sources tt xs
sent_all nodes [] h = tt
sent_all nodes (x ∷ xs) h = (h.0, sent_all nodes xs h.1)

abbrev SourcesHad : ℕ → List Sent → Type 0
SourcesHad nodes = HasCounted ℕ (List Sent) (HasRange 256 0 64) length (λ n. HasMany (Unit {0}) Sent (SentHas nodes) nothing_of_sources n tt)

abbrev pub AreSources : ℕ → List Sent → Type 0
AreSources nodes xs = (length xs ≤ 64) × AllByRecursion (IsSent nodes) xs

abbrev pub spelled_sources : ℕ → List Sent → List ℕ
spelled_sources version = spell_counted ℕ (List Sent) (to_be_bytes w8) length (spell_all Sent (spelled_source_in version))

pub sources_codec : (version nodes : ℕ) → IsNodes nodes → IsCodec (List Sent) (AreSources nodes) (spelled_sources version) (sources_at version nodes)
unfolding sources_at
sources_codec version nodes n =
    has_codec (List Sent) (SourcesHad nodes) (AreSources nodes) (spelled_sources version) (sources_at version nodes)
    (counted_codec ℕ (List Sent) (HasRange 256 0 64) (λ m. HasMany (Unit {0}) Sent (SentHas nodes) nothing_of_sources m tt) (to_be_bytes w8) (spell_all Sent (spelled_source_in version)) length
    (ranged_at w8 0 source_limit) (λ m. list_at (any_source_at version nodes) nothing_of_sources m tt) (ranged_codec w8 256 wide8 0 64)
    (λ m _. list_codec (Unit {0}) Sent (SentHas nodes) (spelled_source_in version) (any_source_at version nodes) nothing_of_sources (λ _. source_codec version nodes n) m tt)
    (λ m xs _ h. h.0))
    (λ xs h. ((within_range 0 64 (length xs) h.0.1).1, all_sent nodes xs h.1.1))
    (λ xs h. ((omega (arith, h.0), in_range 0 64 (length xs) (omega arith) h.0), (refl, sent_all nodes xs h.1)))

-- ---- what stands behind the version

abbrev BodyHas : List ℕ × List Sent → Type 0
BodyHas = HasBoth (List ℕ) (List Sent) AreCounts (λ counts. AreSources (length counts))

abbrev spelled_body : ℕ → Message → List ℕ
spelled_body version m = spelled_all_counts m.counts ++ spelled_sources version m.sources

body_codec : (version : ℕ) → IsCodec Message IsMessage (spelled_body version) (body_at version)
unfolding body_at
body_codec version =
    made_codec (List ℕ × List Sent) Message BodyHas IsMessage (spell_both (List ℕ) (List Sent) spelled_all_counts (spelled_sources version)) (spelled_body version) message_made (λ m. (m.counts, m.sources))
    (both_at counts_at (λ counts. sources_at version (length counts)))
    (both_codec (List ℕ) (List Sent) AreCounts (λ counts. AreSources (length counts)) spelled_all_counts (spelled_sources version) counts_at (λ counts. sources_at version (length counts)) counts_codec
    (λ counts h. sources_codec version (length counts) h.0))
    (record {
      has = λ p h. record { nodes = h.0.0; counts = h.0.1; few = h.1.0; sources = h.1.1 };
      spelled = λ p h. refl;
      has_parts = λ m h. ((h.nodes, h.counts), (h.few, h.sources));
      remakes = λ m h. refl;
    })

-- ---- the version

abbrev pub Magic : ℕ → ℕ → Type 0
Magic b = HasTested ℕ (IsBelow 256) (λ n. eqb n b)

abbrev pub IsVersion : ℕ → Type 0
IsVersion v = is_version v ≡ true

pub magic_codec : (b : ℕ) → IsCodec ℕ (Magic b) (to_be_bytes w8) (magic_at b)
magic_codec b = tested_codec ℕ (IsBelow 256) (to_be_bytes w8) (number_at w8) (λ n. eqb n b) why.Magic (number_codec w8 256 wide8)

-- a version with a byte before it that has to be b
pub behind_magic : (b : ℕ) (Has : ℕ → Type 0) (spell : ℕ → List ℕ) (next : Reader ℕ) → b < 256 → IsCodec ℕ Has spell next
    → IsCodec ℕ Has (λ v. to_be_bytes w8 b ++ spell v) (counted (magic_at b) (λ _. next))
behind_magic b Has spell next small codec =
    has_codec ℕ (HasCounted ℕ ℕ (Magic b) (λ _. b) (λ _. Has)) Has (λ v. to_be_bytes w8 b ++ spell v) (counted (magic_at b) (λ _. next))
    (counted_codec ℕ ℕ (Magic b) (λ _. Has) (to_be_bytes w8) spell (λ _. b) (magic_at b) (λ _. next) (magic_codec b) (λ _ _. codec) (λ x y h _. sym (eqb-true x b h.1)))
    (λ v h. h.1) (λ v h. ((small, eq-eqb b b refl), h))

version_small : (v : ℕ) → IsVersion v → v < 256
version_small v h =
    elim (or_cases (eqb v 1) (eqb v 2) h) [
      | inl e ↦ omega (arith, eqb-true v 1 e)
      | inr e ↦ omega (arith, eqb-true v 2 e)
    ]

abbrev pub spelled_version : ℕ → List ℕ
spelled_version v = to_be_bytes w8 76 ++ (to_be_bytes w8 65 ++ (to_be_bytes w8 83 ++ (to_be_bytes w8 80 ++ to_be_bytes w8 v)))

pub version_codec : IsCodec ℕ IsVersion spelled_version version_at
unfolding version_at
version_codec =
    behind_magic 76 IsVersion _ _ (omega arith) (behind_magic 65 IsVersion _ _ (omega arith) (behind_magic 83 IsVersion _ _ (omega arith) (behind_magic 80 IsVersion (to_be_bytes w8) (tested (number_at w8) is_version why.Magic) (omega arith)
    (has_codec ℕ (HasTested ℕ (IsBelow 256) is_version) IsVersion (to_be_bytes w8) (tested (number_at w8) is_version why.Magic)
    (tested_codec ℕ (IsBelow 256) (to_be_bytes w8) (number_at w8) is_version why.Magic (number_codec w8 256 wide8)) (λ v h. h.1) (λ v h. (version_small v h, h))))))

-- ---- messages

abbrev pub Letter : Type 0
Letter = ℕ × Message

abbrev IsLetter : Letter → Type 0
IsLetter = HasBoth ℕ Message IsVersion (λ _. IsMessage)

abbrev spelled_letter : Letter → List ℕ
spelled_letter l = spelled_version l.0 ++ spelled_body l.0 l.1

letter_took : (bytes : List ℕ) (l : Letter × List ℕ) → IsBytes bytes → message_at bytes ≡ Ok l → Takes bytes (spelled_letter l.0) l.1 × IsLetter l.0
unfolding message_at
letter_took bytes l fits e =
    let a = passed (version_at bytes) (λ x. body_at x.0 x.1 >>= paired x.0) l e in
    let s = version_codec.took bytes a.value fits a.first in
    let b = passed (body_at a.value.0 a.value.1) (paired a.value.0) l a.then in
    let t = (body_codec a.value.0).took a.value.1 b.value s.0.behind b.first in
    let is : ((a.value.0, b.value.0), b.value.1) ≡ l = cc in
    subst (λ (q : Letter × List ℕ). Takes bytes (spelled_letter q.0) q.1 × IsLetter q.0) is
    (takes_both bytes (spelled_version a.value.0) a.value.1 (spelled_body a.value.0 b.value.0) b.value.1 s.0 t.0, (s.1, t.1))

letter_again : (l : Letter) (rest : List ℕ) → IsLetter l → message_at (spelled_letter l ++ rest) ≡ Ok (l, rest)
unfolding message_at
letter_again l rest h =
    rw (append_assoc (spelled_version l.0) (spelled_body l.0 l.1) rest, version_codec.again l.0 (spelled_body l.0 l.1 ++ rest) h.0, (body_codec l.0).again l.1 rest h.1) refl

letter_codec : IsCodec Letter IsLetter spelled_letter message_at
letter_codec = record { took = letter_took; again = letter_again }

abbrev pub beginning : ℕ → List ℕ
beginning v = 76 ∷ 65 ∷ 83 ∷ 80 ∷ v ∷ []

pub beginning_is : (v : ℕ) → IsVersion v → spelled_version v ≡ beginning v
beginning_is v h = ap beginning (omega (arith, version_small v h))

regroup : (a n c k s : List ℕ) → (((a ++ n) ++ c) ++ k) ++ s ≡ a ++ ((n ++ c) ++ (k ++ s))
regroup a n c k s =
    append_assoc ((a ++ n) ++ c) k s ∙ append_assoc (a ++ n) c (k ++ s) ∙ append_assoc a n (c ++ (k ++ s)) ∙ ap (λ (t : List ℕ). a ++ t) (sym (append_assoc n c (k ++ s)))

-- the definition's spelling puts the parts together from the front
pub letter_spelled : (v : ℕ) (m : Message) → IsVersion v → spelled_in v m ≡ spelled_letter (v, m)
unfolding spelled_in
letter_spelled v m h =
    regroup (beginning v) (to_be_bytes w8 (length m.counts)) (spelled_counts m.counts) (to_be_bytes w8 (length m.sources)) (spell_all Sent (spelled_source_in v) m.sources)
    ∙ ap (λ (t : List ℕ). t ++ spelled_body v m) (sym (beginning_is v h))

-- ---- version 2 is the one that is written

content_written : (k : Kind) (s : Content) → spelled_content_in 2 k s ≡ spelled_content k s
content_written OrSet s = refl
content_written GSet s = refl
content_written Counter s = refl
content_written MaxReg s = refl
content_written (Union x y) s = refl
content_written (Product x y) s = refl
content_written (Intersection x y) s = refl
content_written (Map x place ops) s = refl
content_written (Filter x place ops) s = refl
content_written (Fold x op place lift) s = refl

pub sources_written : (xs : List Sent) → flat_map (spelled_source_in 2) xs ≡ flat_map spelled_source xs
sources_written [] = refl
sources_written (x ∷ xs) = λ i. ((number 1 (length x.decl.name) ++ x.decl.name) ++ content_written x.decl.kind x.content i) ++ sources_written xs i

pub written : (m : Message) → spelled_in 2 m ≡ spelled m
unfolding spelled_in spelled
written m = ap (λ (t : List ℕ). ((((beginning 2) ++ number 1 (length m.counts)) ++ flat_map (number 8) m.counts) ++ number 1 (length m.sources)) ++ t) (sources_written m.sources)

-- ---- all of the bytes

read_known : (bytes : List ℕ) (m : Message) → IsBytes bytes → read_message bytes ≡ Ok m → IsMessage m × IsSpelledSo m bytes
unfolding read_message
read_known bytes m fits e =
    let a = passed (message_at bytes) nothing_behind m e in
    let t = letter_codec.took bytes a.value fits a.first in
    let g = test_passed (eqb (length a.value.1) 0) (length a.value.1, why.Rest) a.value.0.1 m a.then in
    let none : a.value.1 ≡ [] = nil_from_length a.value.1 (eqb-true (length a.value.1) 0 g.0) in
    let all : bytes ≡ spelled_letter a.value.0 = t.0.parts ∙ ap (λ (r : List ℕ). spelled_letter a.value.0 ++ r) none ∙ append-nil (spelled_letter a.value.0) in
    subst (λ (n : Message). IsMessage n × IsSpelledSo n bytes) g.1 (t.1.1, record { version = a.value.0.0; known = t.1.0; bytes_are = all ∙ sym (letter_spelled a.value.0.0 a.value.0.1 t.1.0) })

known_read : (v : ℕ) (m : Message) → is_version v ≡ true → IsMessage m → read_message (spelled_in v m) ≡ Ok m
unfolding read_message
known_read v m h has =
    let one : message_at (spelled_letter (v, m)) ≡ Ok ((v, m), []) = ap message_at (sym (append-nil (spelled_letter (v, m)))) ∙ letter_codec.again (v, m) [] (h, has) in
    ap (λ (b : List ℕ). message_at b >>= nothing_behind) (letter_spelled v m h) ∙ ap (λ (r : Reading Letter). r >>= nothing_behind) one

pub decoded_from-ok : {X : Type 0} (bytes : List ℕ) (r : Result X (ℕ × WireWhy)) (x : X) → decoded_from bytes r ≡ Ok x → r ≡ Ok x
decoded_from-ok bytes (Ok y) x e = e
decoded_from-ok bytes (Err why) x e = absurd cc

pub decoded_known : (bytes : List ℕ) (m : Message) → IsBytes bytes → decoded bytes ≡ Ok m → IsMessage m × IsSpelledSo m bytes
unfolding decoded
decoded_known bytes m fits e = read_known bytes m fits (decoded_from-ok bytes (read_message bytes) m e)

pub known_decoded : (v : ℕ) (m : Message) → is_version v ≡ true → IsMessage m → decoded (spelled_in v m) ≡ Ok m
unfolding decoded
known_decoded v m h has = ap (decoded_from (spelled_in v m)) (known_read v m h has)

-- ---- no spelling begins another

abbrev read_ok : Letter × List ℕ → Reading Letter
read_ok x = Ok x

pub no_prefix : (v w : ℕ) (m n : Message) (more : List ℕ) → is_version v ≡ true → is_version w ≡ true → IsMessage m → IsMessage n → spelled_in v m ++ more ≡ spelled_in w n → more ≡ []
no_prefix v w m n more hv hw hm hn same =
    let one : message_at (spelled_letter (v, m) ++ more) ≡ Ok ((v, m), more) = letter_codec.again (v, m) more (hv, hm) in
    let other : message_at (spelled_letter (w, n) ++ []) ≡ Ok ((w, n), []) = letter_codec.again (w, n) [] (hw, hn) in
    let text : spelled_letter (v, m) ++ more ≡ spelled_letter (w, n) ++ [] =
    ap (λ (t : List ℕ). t ++ more) (sym (letter_spelled v m hv)) ∙ same ∙ letter_spelled w n hw ∙ sym (append-nil (spelled_letter (w, n))) in
    rest_is ((v, m), more) ((w, n), []) (sym one ∙ ap message_at text ∙ other)
  where
    rest_is : (x y : Letter × List ℕ) → read_ok x ≡ read_ok y → x.1 ≡ y.1
    rest_is x y e = cc
