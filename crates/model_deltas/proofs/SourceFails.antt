-- The sources of a delta stand as those of a message do, and fail as the law of messages says: bytes are put behind the counts of a message.
use Rattle.std.proofs.Common.{◌≡◌, ◌≢◌, inl, inr, ℕ, zero, suc, ◌+◌, ◌-◌, ◌<◌, ◌≤◌, List, [], ◌∷◌, ◌++◌, length, Ok, Err, refl, sym, ap, subst, ◌∙◌, arith}
use Rattle.std.proofs.lemmas.List.{length-append}
use Rattle.model_graph.specs.Chain.{◌>>=◌}
use Rattle.model_graph.specs.Message.{Sent, Message}
use Rattle.model_wire.specs.declared.wire_why.WireWhy.{WireWhy}
use Rattle.model_wire.specs.declared.wire_why.WireWhy.TheVariants as why
use Rattle.model_wire.specs.Reader.{Reading, paired, remade}
use Rattle.model_wire.specs.Message.{sources_at, counts_at, message_made, body_at, message_at, nothing_behind, read_message, decoded_from, decoded}
use Rattle.model_wire.specs.Stuck.{Failure, FailsByte, FailsSources, FailsBody, FailsVersion, FailsBeginning, IsStuck, in_beginning, in_body, behind_message}
use Rattle.model_wire.proofs.Codecs.{IsBytes}
use Rattle.model_wire.proofs.MessageLaws.{AreCounts, spelled_all_counts, counts_codec, version_codec}
use Rattle.model_wire.proofs.Within.{Inside, sources_inside}
use Rattle.model_wire.proofs.Steady.{same_place, Refused, Steady, message_steady}
use Rattle.model_wire.proofs.Failing.{Told}
use Rattle.model_wire.proofs.SourceFails.{told_stuck, stuck_refused}
use Rattle.model_deltas.proofs.CountFails.{counts_fail}

-- ---- bytes

fits_both : (a b : List ℕ) → IsBytes a → IsBytes b → IsBytes (a ++ b)
fits_both [] b h k i = k i
fits_both (x ∷ a) b h k zero = h 0
fits_both (x ∷ a) b h k (suc i) = fits_both a b (λ j. h (suc j)) k i

fits_on : (b : ℕ) (bytes : List ℕ) → b < 256 → IsBytes bytes → IsBytes (b ∷ bytes)
fits_on b bytes small h zero = small
fits_on b bytes small h (suc i) = h i

-- ---- a message with these counts

-- version 2 of a message, of which these bytes stand behind the version
abbrev pub letter : List ℕ → List ℕ
letter bytes = 76 ∷ 65 ∷ 83 ∷ 80 ∷ 2 ∷ bytes

letter_fits : (bytes : List ℕ) → IsBytes bytes → IsBytes (letter bytes)
letter_fits bytes h =
    fits_on 76 (65 ∷ 83 ∷ 80 ∷ 2 ∷ bytes) (omega arith) (fits_on 65 (83 ∷ 80 ∷ 2 ∷ bytes) (omega arith) (fits_on 83 (80 ∷ 2 ∷ bytes) (omega arith) (fits_on 80 (2 ∷ bytes) (omega arith) (fits_on 2 bytes (omega arith) h))))

abbrev pub Letter : Type 0
Letter = ℕ × Message

abbrev pub in_letter : List ℕ → Reading (List Sent) → Reading Letter
in_letter counts r = ((r >>= paired counts) >>= remade message_made) >>= paired 2

abbrev pub behind_counts : List ℕ → List ℕ → List ℕ
behind_counts counts more = letter (spelled_all_counts counts ++ more)

letter_read : (counts more : List ℕ) → AreCounts counts → message_at (behind_counts counts more) ≡ in_letter counts (sources_at 2 (length counts) more)
unfolding message_at body_at
letter_read counts more h =
    ap (λ (r : Reading ℕ). r >>= (λ x. body_at x.0 x.1 >>= paired x.0)) (version_codec.again 2 (spelled_all_counts counts ++ more) refl)
    ∙ ap (λ (r : Reading (List ℕ)). ((r >>= (λ x. sources_at 2 (length x.0) x.1 >>= paired x.0)) >>= remade message_made) >>= paired 2) (counts_codec.again counts more h)

pub letter_decoded : (counts more : List ℕ) (r : Reading (List Sent)) → AreCounts counts → sources_at 2 (length counts) more ≡ r → decoded (behind_counts counts more) ≡ decoded_from (behind_counts counts more) (in_letter counts r >>= nothing_behind)
unfolding decoded read_message
letter_decoded counts more r h e = ap (λ (l : Reading Letter). decoded_from (behind_counts counts more) (l >>= nothing_behind)) (letter_read counts more h ∙ ap (in_letter counts) e)

-- ---- where it is stuck

later_by : (b n : ℕ) (Next : Failure) → ((bytes : List ℕ) (place : ℕ) (w : WireWhy) → Next bytes place w → place ≤ n) → (bytes : List ℕ) (place : ℕ) (w : WireWhy) → FailsByte b Next bytes place w → place ≤ suc n
later_by b n Next h bytes place w (inl (inl f)) = omega (arith, f.at_front)
later_by b n Next h bytes place w (inl (inr f)) = omega (arith, f.at_front)
later_by b n Next h bytes place w (inr f) = omega (arith, f.place_is, h f.more f.offset w f.fails)

version_first : (bytes : List ℕ) (place : ℕ) (w : WireWhy) → FailsVersion bytes place w → place ≤ 0
version_first bytes place w (inl f) = omega (arith, f.at_front)
version_first bytes place w (inr f) = omega (arith, f.at_front)

beginning_first : (bytes : List ℕ) (place : ℕ) (w : WireWhy) → FailsBeginning bytes place w → place ≤ 4
beginning_first = later_by 76 3 _ (later_by 65 2 _ (later_by 83 1 _ (later_by 80 0 FailsVersion version_first)))

body_stuck : (bytes : List ℕ) (place : ℕ) (w : WireWhy) → w ≢ why.Rest → IsStuck (letter bytes) (5 + place) w → FailsBody 2 bytes place w
body_stuck bytes place w late (in_beginning f) = absurd (let low = beginning_first (letter bytes) (5 + place) w f in omega (arith, low))
body_stuck bytes place w late (behind_message f) = absurd (late f.cause)
body_stuck bytes place w late (in_body f) =
    let parts : 76 ∷ 65 ∷ 83 ∷ 80 ∷ 2 ∷ bytes ≡ 76 ∷ 65 ∷ 83 ∷ 80 ∷ f.item ∷ f.more = f.parts in
    let two : f.item ≡ 2 = cc in
    let same : f.more ≡ bytes = cc in
    let there : f.offset ≡ place = (let p = f.place_is in omega (arith, p)) in
    subst (λ (n : ℕ). FailsBody 2 bytes n w) there (subst (λ (b : List ℕ). FailsBody 2 b f.offset w) same (subst (λ (v : ℕ). FailsBody v f.more f.offset w) two f.fails))

abbrev read_ok : List ℕ × List ℕ → Reading (List ℕ)
read_ok x = Ok x

sources_stuck : (counts more : List ℕ) (place : ℕ) (w : WireWhy) → AreCounts counts → FailsBody 2 (spelled_all_counts counts ++ more) (length (spelled_all_counts counts) + place) w → FailsSources 2 (length counts) more place w
sources_stuck counts more place w h (inl f) =
    absurd (passes (counts, more) _ (sym (counts_codec.again counts more h) ∙ (counts_fail.again (spelled_all_counts counts ++ more) (length (spelled_all_counts counts) + place) w f).refused))
  where
    passes : (x : List ℕ × List ℕ) (e : ℕ × WireWhy) → read_ok x ≡ Err e → ⊥
    passes x e k = cc
sources_stuck counts more place w h (inr f) =
    let again : counts_at (spelled_all_counts f.item ++ f.more) ≡ Ok (f.item, f.more) = counts_codec.again f.item f.more (f.is.nodes, f.is.each) in
    let same : (f.item, f.more) ≡ (counts, more) = is (f.item, f.more) (counts, more) (sym again ∙ ap counts_at (sym f.parts) ∙ counts_codec.again counts more h) in
    let there : f.offset ≡ place = (let p = f.place_is in omega (arith, p, ap (λ (x : List ℕ × List ℕ). length (spelled_all_counts x.0)) same)) in
    subst (λ (n : ℕ). FailsSources 2 (length counts) more n w) there (subst (λ (x : List ℕ × List ℕ). FailsSources 2 (length x.0) x.1 f.offset w) same f.fails)
  where
    is : (x y : List ℕ × List ℕ) → read_ok x ≡ read_ok y → x ≡ y
    is x y k = cc

-- ---- sources that can't be read

pub sources_told : (counts more : List ℕ) (e : ℕ × WireWhy) → AreCounts counts → IsBytes (spelled_all_counts counts) → IsBytes more → sources_at 2 (length counts) more ≡ Err e → Told (FailsSources 2 (length counts)) more e
sources_told counts more e h front fits k =
    let few : e.0 ≤ length more = subst (Inside (length more)) k (sources_inside 2 (length counts) more) in
    let long : length (spelled_all_counts counts ++ more) ≡ length (spelled_all_counts counts) + length more = length-append (spelled_all_counts counts) more in
    let read : message_at (behind_counts counts more) ≡ Err e = letter_read counts more h ∙ ap (in_letter counts) k in
    let refused : Refused (same_place message_at) 0 (behind_counts counts more) e = subst (Steady (same_place message_at) 0 (behind_counts counts more)) read (message_steady 0 (behind_counts counts more)) in
    let there : length (behind_counts counts more) - e.0 ≡ 5 + (length (spelled_all_counts counts) + (length more - e.0)) = omega (arith, few, long) in
    let all : decoded (behind_counts counts more) ≡ Err (5 + (length (spelled_all_counts counts) + (length more - e.0)), e.1) = letter_decoded counts more (Err e) h k ∙ ap (λ (n : ℕ). Err (n, e.1)) there in
    record {
      few = few;
      fails =
          sources_stuck counts more (length more - e.0) e.1 h
          (body_stuck (spelled_all_counts counts ++ more) (length (spelled_all_counts counts) + (length more - e.0)) e.1 refused.no_rest
          (told_stuck (behind_counts counts more) (5 + (length (spelled_all_counts counts) + (length more - e.0))) e.1 (letter_fits (spelled_all_counts counts ++ more) (fits_both (spelled_all_counts counts) more front fits)) all));
    }

-- a message of these counts is refused where its sources fail
pub letter_refused : (counts more : List ℕ) (place : ℕ) (w : WireWhy) → AreCounts counts → FailsSources 2 (length counts) more place w → decoded (behind_counts counts more) ≡ Err (5 + (length (spelled_all_counts counts) + place), w)
letter_refused counts more place w h f =
    stuck_refused (behind_counts counts more) (5 + (length (spelled_all_counts counts) + place)) w
    (in_body (record {
      item = 2;
      is = refl;
      more = spelled_all_counts counts ++ more;
      parts = refl;
      offset = length (spelled_all_counts counts) + place;
      fails = inr (record { item = counts; is = record { nodes = h.0; each = h.1 }; more = more; parts = refl; offset = place; fails = f; place_is = refl });
      place_is = refl;
    }))
