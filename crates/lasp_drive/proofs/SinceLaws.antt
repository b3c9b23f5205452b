-- A message that has of each source what came since an earlier one is what its sender has beyond that.
use Rattle.std.proofs.Common.{◌≡◌, ℕ, suc, ◌+◌, ◌<◌, Bool, true, false, if◌then◌else◌, IsTrue, List, [], ◌∷◌, length, map, refl, ap, ◌∙◌, arith}
use Rattle.std.proofs.lemmas.List.{length-map}
use Rattle.model_states.specs.Content.{Content}
use Rattle.model_graph.specs.Graph.{Decl, is_source, kind_at}
use Rattle.model_graph.specs.Evaluation.{content_at}
use Rattle.model_graph.specs.Message.{Message, Sent, sent_from, source_number, sent_at, content_since}
use Rattle.lasp_drive.specs.Since.{sources_since, message_since}

abbrev pub decls_of : List Sent → List Decl
decls_of sources = map (λ (s : Sent). s.decl) sources

named-since : (before : List Sent) (i : ℕ) (after : List Sent) → decls_of (sources_since before i after) ≡ decls_of after
named-since before i [] = refl
named-since before i (t ∷ after) = ap (λ (ds : List Decl). t.decl ∷ ds) (named-since before (i + 1) after)

-- sources have what a replica's have since those of an earlier message from place i on
abbrev pub HaveSince : List Sent → List Decl → List Content → ℕ → List Sent → Type 0
HaveSince before g contents i tail = (x : ℕ) → x < length g → IsTrue (is_source (kind_at g x)) → sent_at tail (source_number g x) ≡ content_since (kind_at g x) (sent_at before (i + source_number g x)) (content_at contents x)

-- named as the replica's, too, they are those
pub each-since : (before : List Sent) (g : List Decl) (contents : List Content) (i : ℕ) (tail : List Sent) → length contents ≡ length g → decls_of tail ≡ decls_of (sent_from g contents) → HaveSince before g contents i tail → tail ≡ sources_since before i (sent_from g contents)
each-since before [] contents i [] long named each = refl
each-since before [] contents i (t ∷ tail) long named each = absurd cc
each-since before (d ∷ g) [] i tail long named each = absurd (omega (arith, long))
each-since before (d ∷ g) (c ∷ contents) i tail long named each =
    choose (is_source d.kind) tail (λ k rest. each-since before g contents k rest (omega (arith, long))) named (each 0 (omega arith)) (λ x low source. each (suc x) (omega (arith, low)) source)
  where
    first : Sent
    first = record { decl = d; content = c }

    choose : (b : Bool) (tail : List Sent) → ((k : ℕ) (rest : List Sent) → decls_of rest ≡ decls_of (sent_from g contents) → HaveSince before g contents k rest → rest ≡ sources_since before k (sent_from g contents))
        → decls_of tail ≡ decls_of (if b then first ∷ sent_from g contents else sent_from g contents) → (IsTrue b → sent_at tail 0 ≡ content_since d.kind (sent_at before (i + 0)) c)
        → ((x : ℕ) → x < length g → IsTrue (is_source (kind_at g x))
        → sent_at tail (if b then source_number g x + 1 else source_number g x) ≡ content_since (kind_at g x) (sent_at before (i + (if b then source_number g x + 1 else source_number g x))) (content_at contents x))
        → tail ≡ sources_since before i (if b then first ∷ sent_from g contents else sent_from g contents)
    choose true [] again named here left = absurd cc
    choose true (t ∷ tail) again named here left =
        let same : t.decl ≡ d = cc in
        let place : i + 0 ≡ i = omega arith in
        let content : t.content ≡ content_since d.kind (sent_at before i) c = here refl ∙ ap (λ (k : ℕ). content_since d.kind (sent_at before k) c) place in
        let others : decls_of tail ≡ decls_of (sent_from g contents) = cc in
        let rest : HaveSince before g contents (i + 1) tail = λ x low source.
        let next : suc (source_number g x) ≡ source_number g x + 1 = omega arith in
        let there : i + (source_number g x + 1) ≡ (i + 1) + source_number g x = omega arith in
        ap (λ (k : ℕ). sent_at (t ∷ tail) k) next ∙ left x low source ∙ ap (λ (k : ℕ). content_since (kind_at g x) (sent_at before k) (content_at contents x)) there in
        let more : tail ≡ sources_since before (i + 1) (sent_from g contents) = again (i + 1) tail others rest in
        λ j. record { decl = same j; content = content j } ∷ more j
    choose false tail again named here left = again i tail named left

-- ---- what a message has beyond an earlier one is named as it is

pub since-named : (before after tail : Message) → tail ≡ message_since before after → decls_of tail.sources ≡ decls_of after.sources
since-named before after tail is = ap (λ (m : Message). decls_of m.sources) is ∙ named-since before.sources 0 after.sources

pub since-long : (before after tail : Message) → tail ≡ message_since before after → length tail.sources ≡ length after.sources
since-long before after tail is = omega (arith, ap (λ (ds : List Decl). length ds) (since-named before after tail is), length-map tail.sources (λ (s : Sent). s.decl), length-map after.sources (λ (s : Sent). s.decl))
