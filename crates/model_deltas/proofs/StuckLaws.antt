-- Where the bytes of a delta fail: a reader fails there, and there alone.
use Rattle.std.proofs.Common.{◌≡◌, ◌≢◌, ◌⊎◌, inl, inr, ℕ, ◌+◌, ◌-◌, ◌<◌, ◌≤◌, Bool, cond, List, [], ◌∷◌, ◌++◌, length, Result, Ok, Err, refl, sym, ap, subst, ◌∙◌, append_assoc, arith}
use Rattle.std.proofs.lemmas.Bool.{eqb-true, eq-eqb}
use Rattle.std.proofs.lemmas.List.{length-append}
use Rattle.std.proofs.Math.Dec.{eqb-suc-zero}
use Rattle.model_graph.specs.Chain.{◌>>=◌}
use Rattle.model_graph.proofs.PlaceLaws.{below-or-not, at-past}
use Rattle.model_states.specs.Counts.{count_at}
use Rattle.model_graph.specs.Message.{Sent, Message}
use Rattle.model_graph.specs.Spelling.{spelled_counts}
use Rattle.model_wire.specs.declared.wire_why.WireWhy.{WireWhy}
use Rattle.model_wire.specs.declared.wire_why.WireWhy.TheVariants as why
use Rattle.model_wire.specs.Reader.{Reading, paired, remade, both_at}
use Rattle.model_wire.specs.Message.{sources_at, message_made, nothing_behind, placed, decoded_from}
use Rattle.model_wire.specs.Lawful.{IsBytes}
use Rattle.model_wire.specs.Stuck.{FailsSources}
use Rattle.model_wire.proofs.MessageLaws.{spelled_all_counts}
use Rattle.model_wire.proofs.Within.{Inside, sources_inside}
use Rattle.model_wire.proofs.PrefixLaws.{behind_named, front_fits}
use Rattle.model_wire.proofs.PrefixLaws as letters
use Rattle.model_wire.proofs.Failing.{Told, Failed, at_first, at_next, failed, error, pure}
use Rattle.model_deltas.specs.Delta.{Delta}
use Rattle.model_deltas.specs.Before.{IsDelta}
use Rattle.model_deltas.specs.Spelling.{spelled_delta}
use Rattle.model_deltas.specs.Reader.{Span, span_at, delta_made, delta_body_at, delta_version_at, delta_at, nothing_behind_it, read_delta, decoded_delta}
use Rattle.model_deltas.specs.Stuck.{IsSpan, spelled_span, FailsDeltaBody, delta_beginning, IsStuckDelta, in_beginning, in_body, behind_delta}
use Rattle.model_deltas.proofs.CodecLaws.{SpanHas, span_codec, version_codec, delta_codec, spelled_parts, delta_spelled}
use Rattle.model_deltas.proofs.CodecLaws as codecs
use Rattle.model_deltas.proofs.CountFails.{version_fail, span_fail}
use Rattle.model_deltas.proofs.SourceFails.{sources_told, letter_decoded, letter_refused}
use Rattle.model_deltas.proofs.SourceFails as letter

-- ---- spans, said in two ways

is_span : (span : Span) → SpanHas span → IsSpan span
is_span span h = record { from = record { nodes = h.0.0; each = h.0.1 }; wide = h.1.0; later = record { each = h.1.1; rises = λ q low. h.1.2 q } }

has_span : (span : Span) → IsSpan span → SpanHas span
has_span span h = ((h.from.nodes, h.from.each), (h.wide, h.later.each, each)) where
  each : (q : ℕ) → count_at span.0 q ≤ count_at span.1 q
  each q = choose (below-or-not q (length span.1)) where
    choose : (q < length span.1) ⊎ (length span.1 ≤ q) → count_at span.0 q ≤ count_at span.1 q
    choose (inl low) = h.later.rises q low
    choose (inr past) = let nothing : count_at span.0 q ≡ 0 = at-past span.0 q 0 (let same = h.wide in omega (arith, past, same)) in omega (arith, nothing)

-- ---- a reader that fails says where

longer : (bytes front rest : List ℕ) → bytes ≡ front ++ rest → length bytes ≡ length front + length rest
longer bytes front rest parts = ap (λ (b : List ℕ). length b) parts ∙ length-append front rest

-- the counts of a message are those from which a delta goes on, where these are bytes
from_fits : (bytes : List ℕ) (span : Span) (rest : List ℕ) → bytes ≡ spelled_span span ++ rest → IsBytes bytes → IsBytes (spelled_all_counts span.0)
from_fits bytes span rest parts fits =
    front_fits bytes (spelled_all_counts span.0) (spelled_counts span.1 ++ rest) (parts ∙ append_assoc (spelled_all_counts span.0) (spelled_counts span.1) rest) fits

abbrev sources_behind : Span → List ℕ → Reading (List Sent)
sources_behind span bytes = sources_at 2 (length span.0) bytes

behind_span : (bytes : List ℕ) (e : ℕ × WireWhy) (x : Span × List ℕ) → IsBytes bytes → span_at bytes ≡ Ok x → sources_behind x.0 x.1 ≡ Err e → Told FailsDeltaBody bytes e
behind_span bytes e x fits h k =
    let s = span_codec.took bytes x fits h in
    let t = sources_told x.0.0 x.1 e s.1.0 (from_fits bytes x.0 x.1 s.0.parts fits) s.0.behind k in
    let long = longer bytes (spelled_span x.0) x.1 s.0.parts in
    record {
      few = omega (arith, long, t.few);
      fails = inr (record { item = x.0; is = is_span x.0 s.1; more = x.1; parts = s.0.parts; offset = length x.1 - e.0; fails = t.fails; place_is = omega (arith, long, t.few) });
    }

body_told : (bytes : List ℕ) (e : ℕ × WireWhy) → IsBytes bytes → delta_body_at bytes ≡ Err e → Told FailsDeltaBody bytes e
unfolding delta_body_at
body_told bytes e fits h = whole (failed (both_at span_at sources_behind bytes) (λ x. pure (delta_made x.0) x.1) e h)
  where
    sources : (x : Span × List ℕ) → span_at bytes ≡ Ok x → Failed (sources_behind x.0 x.1) (paired x.0) e → Told FailsDeltaBody bytes e
    sources x k (at_first l) = behind_span bytes e x fits k l
    sources x k (at_next xs l m) = absurd cc

    span : Failed (span_at bytes) (λ x. sources_behind x.0 x.1 >>= paired x.0) e → Told FailsDeltaBody bytes e
    span (at_first k) = let t = span_fail.told bytes e fits k in record { few = t.few; fails = inl t.fails }
    span (at_next x k l) = sources x k (failed (sources_behind x.0 x.1) (paired x.0) e l)

    whole : Failed (both_at span_at sources_behind bytes) (λ x. pure (delta_made x.0) x.1) e → Told FailsDeltaBody bytes e
    whole (at_first k) = span (failed (span_at bytes) (λ x. sources_behind x.0 x.1 >>= paired x.0) e k)
    whole (at_next x k l) = absurd cc

delta_told : (bytes : List ℕ) (e : ℕ × WireWhy) → IsBytes bytes → delta_at bytes ≡ Err e → IsStuckDelta bytes (length bytes - e.0) e.1
unfolding delta_at
delta_told bytes e fits h = by (failed (delta_version_at bytes) (λ v. delta_body_at v.1) e h)
  where
    by : Failed (delta_version_at bytes) (λ v. delta_body_at v.1) e → IsStuckDelta bytes (length bytes - e.0) e.1
    by (at_first k) = in_beginning (version_fail.told bytes e fits k).fails
    by (at_next v k l) =
        let s = version_codec.took bytes v fits k in
        let t = body_told v.1 e s.0.behind l in
        let parts : bytes ≡ delta_beginning 1 ++ v.1 = s.0.parts ∙ ap (λ (n : ℕ). codecs.spelled_version n ++ v.1) (eqb-true v.0 1 s.1.1) in
        in_body (record {
          item = 1;
          is = refl;
          more = v.1;
          parts = parts;
          offset = length v.1 - e.0;
          fails = t.fails;
          place_is = omega (arith, longer bytes (delta_beginning 1) v.1 parts, t.few);
        })

-- ---- all of the bytes

abbrev refusal : ℕ × WireWhy → Result Delta (ℕ × WireWhy)
refusal e = Err e

refusal_is : (e f : ℕ × WireWhy) → refusal e ≡ refusal f → e ≡ f
refusal_is e f h = cc

rest_named : (d : Delta) (b : ℕ) (rest : List ℕ) → nothing_behind_it (d, b ∷ rest) ≡ refusal (length (b ∷ rest), why.Rest)
rest_named d b rest = ap (λ (t : Bool). cond t (Ok d) (refusal (length (b ∷ rest), why.Rest))) (eqb-suc-zero (length rest))

rest_left : (bytes : List ℕ) (d : Delta) (b : ℕ) (rest : List ℕ) → IsBytes bytes → delta_at bytes ≡ Ok (d, b ∷ rest) → IsStuckDelta bytes (length bytes - length (b ∷ rest)) why.Rest
rest_left bytes d b rest fits h =
    let s = delta_codec.took bytes (d, b ∷ rest) fits h in
    let parts : bytes ≡ spelled_delta d ++ (b ∷ rest) = s.0.parts ∙ ap (λ (t : List ℕ). t ++ (b ∷ rest)) (sym (delta_spelled d)) in
    behind_delta (record {
      item = d;
      is = s.1;
      more = b ∷ rest;
      parts = parts;
      offset = 0;
      fails = record { some = λ none. cc; at_front = refl; cause = refl };
      place_is = omega (arith, longer bytes (spelled_delta d) (b ∷ rest) parts);
    })

pub told_stuck : (bytes : List ℕ) (place : ℕ) (w : WireWhy) → IsBytes bytes → decoded_delta bytes ≡ Err (place, w) → IsStuckDelta bytes place w
unfolding decoded_delta read_delta
told_stuck bytes place w fits h = by (delta_at bytes) refl h
  where
    at : (e : ℕ × WireWhy) → e ≡ (place, w) → IsStuckDelta bytes e.0 e.1 → IsStuckDelta bytes place w
    at e is s = subst (λ (f : ℕ × WireWhy). IsStuckDelta bytes f.0 f.1) is s

    by : (r : Reading Delta) → delta_at bytes ≡ r → decoded_from bytes (r >>= nothing_behind_it) ≡ Err (place, w) → IsStuckDelta bytes place w
    by (Ok (d, [])) same k = absurd cc
    by (Ok (d, b ∷ rest)) same k =
        at (length bytes - length (b ∷ rest), why.Rest) (refusal_is _ _ (sym (ap (decoded_from bytes) (rest_named d b rest)) ∙ k)) (rest_left bytes d b rest fits same)
    by (Err e) same k = at (placed bytes e) (refusal_is _ _ k) (delta_told bytes e fits same)

-- ---- and where it is said to, it fails

refused_by : (bytes : List ℕ) (place : ℕ) (w : WireWhy) → place ≤ length bytes → delta_at bytes ≡ Err (length bytes - place, w) → decoded_delta bytes ≡ Err (place, w)
unfolding decoded_delta read_delta
refused_by bytes place w within h = ap (λ (r : Reading Delta). decoded_from bytes (r >>= nothing_behind_it)) h ∙ ap (λ (n : ℕ). refusal (n, w)) (omega (arith, within))

-- behind the version
body_is : (rest : List ℕ) → delta_at (delta_beginning 1 ++ rest) ≡ delta_body_at rest
unfolding delta_at
body_is rest = ap (λ (r : Reading ℕ). r >>= (λ v. delta_body_at v.1)) (version_codec.again 1 rest (omega arith, eq-eqb 1 1 refl))

-- behind the counts
abbrev in_delta : Span → Reading (List Sent) → Reading Delta
in_delta span r = (r >>= paired span) >>= remade delta_made

abbrev behind_counts : Span → List ℕ → List ℕ
behind_counts span more = delta_beginning 1 ++ (spelled_span span ++ more)

delta_read : (span : Span) (more : List ℕ) → SpanHas span → delta_at (behind_counts span more) ≡ in_delta span (sources_behind span more)
unfolding delta_body_at
delta_read span more h = body_is (spelled_span span ++ more) ∙ ap (λ (r : Reading Span). (r >>= (λ x. sources_behind x.0 x.1 >>= paired x.0)) >>= remade delta_made) (span_codec.again span more h)

delta_decoded : (span : Span) (more : List ℕ) (r : Reading (List Sent)) → SpanHas span → sources_behind span more ≡ r → decoded_delta (behind_counts span more) ≡ decoded_from (behind_counts span more) (in_delta span r >>= nothing_behind_it)
unfolding decoded_delta read_delta
delta_decoded span more r h e = ap (λ (d : Reading Delta). decoded_from (behind_counts span more) (d >>= nothing_behind_it)) (delta_read span more h ∙ ap (in_delta span) e)

abbrev told : ℕ → WireWhy → ℕ × WireWhy
told place w = (place, w)

abbrev answered : Message → Result Message (ℕ × WireWhy)
answered m = Ok m

-- the sources fail in a delta as in a message that has the counts from which it goes on
sources_refused : (span : Span) (more : List ℕ) (place : ℕ) (w : WireWhy) → SpanHas span → FailsSources 2 (length span.0) more place w → decoded_delta (behind_counts span more) ≡ Err (5 + (length (spelled_span span) + place), w)
sources_refused span more place w h f = by (sources_behind span more) refl (sources_inside 2 (length span.0) more)
  where
    front : ℕ
    front = length (spelled_all_counts span.0)

    law : (r : Reading (List Sent)) → sources_behind span more ≡ r → decoded_from (letter.behind_counts span.0 more) (letter.in_letter span.0 r >>= nothing_behind) ≡ Err (5 + (front + place), w)
    law r same = sym (letter_decoded span.0 more r h.0 same) ∙ letter_refused span.0 more place w h.0 f

    -- so many bytes stand from the place on
    at : (left : ℕ) (v : WireWhy) → left ≤ length more → told (length (letter.behind_counts span.0 more) - left) v ≡ told (5 + (front + place)) w → refusal (length (behind_counts span more) - left, v) ≡ Err (5 + (length (spelled_span span) + place), w)
    at left v few is =
        let there = ap (λ (e : ℕ × WireWhy). e.0) is in
        ap (λ (n : ℕ). refusal (n, v)) (omega (arith, few, there, length-append (spelled_all_counts span.0) more, length-append (spelled_span span) more)) ∙ ap (λ (u : WireWhy). refusal (5 + (length (spelled_span span) + place), u)) (ap (λ (e : ℕ × WireWhy). e.1) is)

    accepted : (m : Message) (e : ℕ × WireWhy) → answered m ≡ Err e → ⊥
    accepted m e k = cc

    by : (r : Reading (List Sent)) → sources_behind span more ≡ r → Inside (length more) r → decoded_delta (behind_counts span more) ≡ Err (5 + (length (spelled_span span) + place), w)
    by (Ok (xs, [])) same few = absurd (accepted (message_made (span.0, xs)) (5 + (front + place), w) (law (Ok (xs, [])) same))
    by (Ok (xs, b ∷ rest)) same few =
        delta_decoded span more (Ok (xs, b ∷ rest)) h same ∙ ap (decoded_from (behind_counts span more)) (rest_named (delta_made (span, xs)) b rest)
        ∙ at (length (b ∷ rest)) why.Rest few (letters.refusal_is _ _ (sym (ap (decoded_from (letter.behind_counts span.0 more)) (behind_named (2, message_made (span.0, xs)) b rest)) ∙ law (Ok (xs, b ∷ rest)) same))
    by (Err e) same few = delta_decoded span more (Err e) h same ∙ at e.0 e.1 few (letters.refusal_is _ _ (law (Err e) same))

-- ---- the law

version_refused : (bytes : List ℕ) (e : ℕ × WireWhy) → delta_version_at bytes ≡ Err e → delta_at bytes ≡ Err e
unfolding delta_at
version_refused bytes e h = ap (λ (r : Reading ℕ). r >>= (λ v. delta_body_at v.1)) h

span_refused : (bytes : List ℕ) (e : ℕ × WireWhy) → span_at bytes ≡ Err e → delta_body_at bytes ≡ Err e
unfolding delta_body_at
span_refused bytes e h = ap (λ (r : Reading Span). (r >>= (λ x. sources_behind x.0 x.1 >>= paired x.0)) >>= remade delta_made) h

body_refused : (rest : List ℕ) (place : ℕ) (w : WireWhy) → FailsDeltaBody rest place w → decoded_delta (delta_beginning 1 ++ rest) ≡ Err (5 + place, w)
body_refused rest place w (inl f) =
    let a = span_fail.again rest place w f in
    refused_by (delta_beginning 1 ++ rest) (5 + place) w (omega (arith, a.within)) (body_is rest ∙ span_refused rest (length rest - place, w) a.refused ∙ ap (λ (n : ℕ). error Delta n w) (omega (arith, a.within)))
body_refused rest place w (inr f) =
    ap (λ (b : List ℕ). decoded_delta (delta_beginning 1 ++ b)) f.parts ∙ sources_refused f.item f.more f.offset w (has_span f.item f.is) f.fails ∙ ap (λ (n : ℕ). refusal (n, w)) (omega (arith, f.place_is))

rest_refused : (d : Delta) (more : List ℕ) → IsDelta d → more ≢ [] → decoded_delta (spelled_delta d ++ more) ≡ Err (length (spelled_delta d), why.Rest)
unfolding decoded_delta read_delta
rest_refused d [] h some = absurd (some refl)
rest_refused d (b ∷ rest) h some =
    ap (λ (t : List ℕ). decoded_delta (t ++ (b ∷ rest))) (delta_spelled d)
    ∙ ap (λ (r : Reading Delta). decoded_from (spelled_parts d ++ (b ∷ rest)) (r >>= nothing_behind_it)) (delta_codec.again d (b ∷ rest) h)
    ∙ ap (decoded_from (spelled_parts d ++ (b ∷ rest))) (rest_named d b rest)
    ∙ ap (λ (n : ℕ). refusal (n, why.Rest)) (omega (arith, length-append (spelled_parts d) (b ∷ rest), ap (λ (t : List ℕ). length t) (delta_spelled d)))

pub stuck_refused : (bytes : List ℕ) (place : ℕ) (w : WireWhy) → IsStuckDelta bytes place w → decoded_delta bytes ≡ Err (place, w)
stuck_refused bytes place w (in_beginning f) = let a = version_fail.again bytes place w f in refused_by bytes place w a.within (version_refused bytes (length bytes - place, w) a.refused)
stuck_refused bytes place w (in_body f) =
    let parts : bytes ≡ delta_beginning 1 ++ f.more = f.parts ∙ ap (λ (v : ℕ). delta_beginning v ++ f.more) f.is in
    ap decoded_delta parts ∙ body_refused f.more f.offset w f.fails ∙ ap (λ (n : ℕ). refusal (n, w)) (let p = f.place_is in omega (arith, p))
stuck_refused bytes place w (behind_delta f) =
    let left = f.fails in
    ap decoded_delta f.parts ∙ rest_refused f.item f.more f.is left.some
    ∙ ap (λ (n : ℕ). refusal (n, why.Rest)) (let p = f.place_is in let front = left.at_front in omega (arith, p, front)) ∙ ap (λ (v : WireWhy). refusal (place, v)) (sym left.cause)
