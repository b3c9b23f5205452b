-- What the first bytes of a message decide.
use Rattle.std.proofs.Common.{◌≡◌, ◌≢◌, ℕ, ◌+◌, ◌-◌, ◌⊎◌, Bool, true, cond, List, [], ◌∷◌, ◌++◌, length, take, Result, Ok, Err, refl, sym, ap, subst, ◌∙◌, append-nil, arith, inl, inr}
use Rattle.std.proofs.Math.Dec.{eqb-suc-zero}
use Rattle.std.proofs.lemmas.List.{length-append, take_at}
use Rattle.model_graph.specs.Chain.{◌>>=◌}
use Rattle.model_graph.specs.Message.{Message}
use Rattle.model_wire.specs.declared.wire_why.WireWhy.{WireWhy}
use Rattle.model_wire.specs.declared.wire_why.WireWhy.TheVariants as why
use Rattle.model_wire.specs.Reader.{Reading}
use Rattle.model_wire.specs.Message.{is_version, message_at, nothing_behind, read_message, placed, decoded_from, decoded}
use Rattle.model_wire.specs.Spelling.{spelled_in}
use Rattle.model_wire.specs.Lawful.{IsBytes, IsMessage}
use Rattle.model_wire.proofs.Codecs.{within_take}
use Rattle.model_wire.proofs.MessageLaws.{decoded_known, known_decoded}
use Rattle.model_wire.specs.Prefix.{HasMessageBefore}
use Rattle.model_wire.proofs.Steady.{same_place, Taken, Steady, longer, message_steady}

abbrev Letter : Type 0
Letter = ℕ × Message

abbrev Answer : Type 0
Answer = Result Message (ℕ × WireWhy)

abbrev refusal : ℕ × WireWhy → Answer
refusal e = Err e

pub refusal_is : (e f : ℕ × WireWhy) → refusal e ≡ refusal f → e ≡ f
refusal_is e f h = cc

-- the same refusal, with so many bytes more behind it
abbrev moved : ℕ → ℕ × WireWhy → ℕ × WireWhy
moved n e = (e.0 + n, e.1)

-- ---- refusals

pub behind_named : (l : Letter) (b : ℕ) (rest : List ℕ) → nothing_behind (l, b ∷ rest) ≡ refusal (length (b ∷ rest), why.Rest)
behind_named l b rest = ap (λ (t : Bool). cond t (Ok l.1) (refusal (length (b ∷ rest), why.Rest))) (eqb-suc-zero (length rest))

read_stays : (bytes more : List ℕ) (e : ℕ × WireWhy) → read_message bytes ≡ Err e → e.1 ≢ why.Short → read_message (bytes ++ more) ≡ Err (moved (length more) e)
unfolding read_message
read_stays bytes more e h late = by (message_at bytes) (message_steady 0 bytes) h
  where
    by : (r : Reading Letter) → Steady (same_place message_at) 0 bytes r → (r >>= nothing_behind) ≡ Err e → (message_at (bytes ++ more) >>= nothing_behind) ≡ Err (moved (length more) e)
    by (Ok (l, [])) t k = absurd cc
    by (Ok (l, b ∷ rest)) t k =
        ap (λ (r : Reading Letter). r >>= nothing_behind) (longer Letter (same_place message_at) bytes (l, b ∷ rest) t 0 more)
        ∙ behind_named l b (rest ++ more)
        ∙ ap (λ (n : ℕ). refusal (n, why.Rest)) (length-append (b ∷ rest) more)
        ∙ ap (λ (f : ℕ × WireWhy). refusal (moved (length more) f)) (refusal_is (length (b ∷ rest), why.Rest) e (sym (behind_named l b rest) ∙ k))
    by (Err f) t k =
        let same : f ≡ e = refusal_is f e k in
        ap (λ (r : Reading Letter). r >>= nothing_behind) (t.stays (λ short. late (ap (λ (g : ℕ × WireWhy). g.1) (sym same) ∙ short)) more)
        ∙ ap (λ (g : ℕ × WireWhy). refusal (moved (length more) g)) same

pub refusal_stays : (bytes more : List ℕ) (place : ℕ) (w : WireWhy) → decoded bytes ≡ Err (place, w) → w ≢ why.Short → decoded (bytes ++ more) ≡ Err (place, w)
unfolding decoded
refusal_stays bytes more place w h late = by (read_message bytes) refl h
  where
    by : (r : Answer) → read_message bytes ≡ r → decoded_from bytes r ≡ Err (place, w) → decoded_from (bytes ++ more) (read_message (bytes ++ more)) ≡ Err (place, w)
    by (Ok m) same k = absurd cc
    by (Err e) same k =
        let is : placed bytes e ≡ (place, w) = refusal_is (placed bytes e) (place, w) k in
        let cause : e.1 ≡ w = ap (λ (f : ℕ × WireWhy). f.1) is in
        let there : length (bytes ++ more) - (e.0 + length more) ≡ length bytes - e.0 = omega (arith, length-append bytes more) in
        ap (decoded_from (bytes ++ more)) (read_stays bytes more e same (λ short. late (sym cause ∙ short)))
        ∙ ap (λ (n : ℕ). refusal (n, e.1)) there ∙ ap refusal is

answers_differ : (m : Message) (e : ℕ × WireWhy) (r : Answer) → r ≡ Ok m → r ≡ Err e → ⊥
answers_differ m e r h k = cc

pub begins_none : (bytes more : List ℕ) (place : ℕ) (w : WireWhy) (version : ℕ) (m : Message) → decoded bytes ≡ Err (place, w) → w ≢ why.Short → is_version version ≡ true → IsMessage m → spelled_in version m ≢ bytes ++ more
begins_none bytes more place w version m h late known lawful same =
    answers_differ m (place, w) (decoded (bytes ++ more)) (ap decoded (sym same) ∙ known_decoded version m known lawful) (refusal_stays bytes more place w h late)

-- ---- bytes behind a message

-- the bytes that a message was read from, and those behind it
record IsCut (bytes : List ℕ) (place : ℕ) : Type 0 where
  letter : Letter
  rest : List ℕ
  some : rest ≢ []
  cut : Taken (same_place message_at) bytes (letter, rest)
  ends : place ≡ length cut.taken

cut_before : (bytes : List ℕ) (place : ℕ) → decoded bytes ≡ Err (place, why.Rest) → IsCut bytes place
unfolding decoded read_message
cut_before bytes place h = by (message_at bytes) (message_steady 0 bytes) h
  where
    by : (r : Reading Letter) → Steady (same_place message_at) 0 bytes r → decoded_from bytes (r >>= nothing_behind) ≡ Err (place, why.Rest) → IsCut bytes place
    by (Ok (l, [])) t k = absurd cc
    by (Ok (l, b ∷ rest)) t k =
        let there : length bytes - length (b ∷ rest) ≡ place = ap (λ (e : ℕ × WireWhy). e.0) (refusal_is (length bytes - length (b ∷ rest), why.Rest) (place, why.Rest) (ap (decoded_from bytes) (sym (behind_named l b rest)) ∙ k)) in
        let all : length bytes ≡ length t.taken + length (b ∷ rest) = ap (length {A = ℕ}) t.parts ∙ length-append t.taken (b ∷ rest) in
        record { letter = l; rest = b ∷ rest; some = λ none. cc; cut = t; ends = omega (arith, there, all) }
    by (Err e) t k = absurd (t.no_rest (ap (λ (f : ℕ × WireWhy). f.1) (refusal_is (placed bytes e) (place, why.Rest) k)))

taken_decoded : (bytes : List ℕ) (l : Letter) (rest : List ℕ) (t : Taken (same_place message_at) bytes (l, rest)) → decoded t.taken ≡ Ok l.1
unfolding decoded read_message
taken_decoded bytes l rest t =
    let one : message_at t.taken ≡ Ok (l, []) = ap message_at (sym (append-nil t.taken)) ∙ t.again 0 [] in
    ap (λ (r : Reading Letter). decoded_from t.taken (r >>= nothing_behind)) one

pub front_fits : (bytes front rest : List ℕ) → bytes ≡ front ++ rest → IsBytes bytes → IsBytes front
front_fits bytes front rest parts fits =
    subst IsBytes (ap (take (length front)) parts ∙ take_at front rest (length front) refl) (within_take (length front) bytes fits)

pub rest_before : (bytes : List ℕ) (place : ℕ) → IsBytes bytes → decoded bytes ≡ Err (place, why.Rest) → HasMessageBefore bytes place
rest_before bytes place fits h =
    let c = cut_before bytes place h in
    let t = c.cut in
    let m = decoded_known t.taken c.letter.1 (front_fits bytes t.taken c.rest t.parts fits) (taken_decoded bytes c.letter c.rest t) in
    record {
      version = m.1.version;
      message = c.letter.1;
      more = c.rest;
      known = m.1.known;
      lawful = m.0;
      some = c.some;
      parts = t.parts ∙ ap (λ (b : List ℕ). b ++ c.rest) m.1.bytes_are;
      ends = c.ends ∙ ap (length {A = ℕ}) m.1.bytes_are;
    }

-- where all of the bytes are a message, more of them are refused
more_refused : (bytes more : List ℕ) (m : Message) → decoded bytes ≡ Ok m → more ≢ [] → decoded (bytes ++ more) ≡ Err (length bytes, why.Rest)
unfolding decoded read_message
more_refused bytes [] m h some = absurd (some refl)
more_refused bytes (b ∷ more) m h some = by (message_at bytes) (message_steady 0 bytes) h
  where
    by : (r : Reading Letter) → Steady (same_place message_at) 0 bytes r → decoded_from bytes (r >>= nothing_behind) ≡ Ok m
        → decoded_from (bytes ++ b ∷ more) (message_at (bytes ++ b ∷ more) >>= nothing_behind) ≡ Err (length bytes, why.Rest)
    by (Ok (l, [])) t k =
        ap (λ (r : Reading Letter). decoded_from (bytes ++ b ∷ more) (r >>= nothing_behind)) (longer Letter (same_place message_at) bytes (l, []) t 0 (b ∷ more))
        ∙ ap (decoded_from (bytes ++ b ∷ more)) (behind_named l b more)
        ∙ ap (λ (n : ℕ). refusal (n, why.Rest)) (omega (arith, length-append bytes (b ∷ more)))
    by (Ok (l, c ∷ rest)) t k = absurd (answers_differ m (placed bytes (length (c ∷ rest), why.Rest)) _ k (ap (decoded_from bytes) (behind_named l c rest)))
    by (Err e) t k = absurd cc

pub before_refused : (bytes : List ℕ) (place : ℕ) → HasMessageBefore bytes place → decoded bytes ≡ Err (place, why.Rest)
before_refused bytes place h =
    ap decoded h.parts ∙ more_refused (spelled_in h.version h.message) h.more h.message (known_decoded h.version h.message h.known h.lawful) h.some
    ∙ ap (λ (n : ℕ). refusal (n, why.Rest)) (sym h.ends)

-- ---- beginnings

short_or_not : (w : WireWhy) → (w ≡ why.Short) ⊎ (w ≢ why.Short)
short_or_not why.Short = inl refl
short_or_not why.Magic = inr (λ e. cc)
short_or_not why.Kind = inr (λ e. cc)
short_or_not why.Order = inr (λ e. cc)
short_or_not why.Text = inr (λ e. cc)
short_or_not why.Range = inr (λ e. cc)
short_or_not why.Rest = inr (λ e. cc)

abbrev IsShort : List ℕ → Type 0
IsShort bytes = (place : ℕ) × (decoded bytes ≡ Err (place, why.Short))

pub beginning_short : (bytes more : List ℕ) (version : ℕ) (m : Message) → bytes ++ more ≡ spelled_in version m → more ≢ [] → is_version version ≡ true → IsMessage m → IsShort bytes
beginning_short bytes more version m same some known lawful = by (decoded bytes) refl
  where
    whole : decoded (bytes ++ more) ≡ Ok m
    whole = ap decoded same ∙ known_decoded version m known lawful

    by : (r : Answer) → decoded bytes ≡ r → IsShort bytes
    by (Ok n) h = absurd (answers_differ m (length bytes, why.Rest) (decoded (bytes ++ more)) whole (more_refused bytes more n h some))
    by (Err e) h =
        elim (short_or_not e.1) [
          | inl short ↦ (e.0, h ∙ ap (λ (w : WireWhy). refusal (e.0, w)) short)
          | inr late ↦ absurd (answers_differ m e (decoded (bytes ++ more)) whole (refusal_stays bytes more e.0 e.1 h late))
        ]
