-- Where numbers, texts, values, tokens and rows fail.
use Rattle.std.proofs.Common.{◌≡◌, ℕ, zero, suc, ◌+◌, ◌-◌, ◌<◌, ◌≤◌, Bool, true, false, cond, eqb, List, [], ◌∷◌, ◌++◌, length, Ok, Err, ℤ, refl, sym, ap, subst, ◌∙◌, arith}
use Rattle.std.specs.Int.{Width, w8, w16, w64, byte_len, from_be_bytes, to_be_bytes, cast_signed}
use Rattle.std.specs.Str.{is_utf8}
use Rattle.std.proofs.lemmas.Bool.{eqb-true, eqb-false, ne_eqb}
use Rattle.std.proofs.lemmas.List.{length-append}
use Rattle.model_graph.specs.Chain.{◌>>=◌}
use Rattle.model_values.specs.Value.{Val}
use Rattle.model_values.specs.Size.{leaves, text_bytes}
use Rattle.model_values.specs.Token.{Tok}
use Rattle.model_values.specs.Row.{Row}
use Rattle.model_values.proofs.SizeLaws.{leaves-some}
use Rattle.model_graph.specs.Spelling.{spelled_value}
use Rattle.model_wire.specs.declared.wire_why.WireWhy.{WireWhy}
use Rattle.model_wire.specs.declared.wire_why.WireWhy.TheVariants as why
use Rattle.model_wire.specs.Reader.{Reading, Reader, bytes_at, tested, both_at, counted, made, number_at, between, ranged_at, kind_at}
use Rattle.model_wire.specs.Value.{signed_at, text_at, Part, int_part, text_part, pair_part, part_at, part_value, value_at, token_parts_at, token_made, token_at, row_made, row_at}
use Rattle.model_wire.specs.Lawful.{IsSourceValue, IsNodes}
use Rattle.model_wire.specs.Stuck.{Failure, EndsWithin, IsRefused, FailsBehind, EitherFails, IsBetween, FailsNumber, FailsCounted, FailsText, IsPart, FailsPart, at_tag, at_pair, in_number, in_text, in_first, in_second, FailsValue, FailsToken, FailsRow}
use Rattle.model_wire.proofs.Codecs.{IsBytes, Takes, IsLong, itself, bytes_codec, IsWide, wide8, wide16, wide64, IsBelow, number_codec, tested_codec}
use Rattle.model_wire.proofs.ValueLaws.{HasRange, kind_codec, within_range, in_range, first, second, chosen, pair_behind, behind_tag, part_took, part_again, value_codec}
use Rattle.model_wire.proofs.Failing.{Told, Fails, FailsAs, Failed, at_first, at_next, failed, error, pure, bytes_fail, counted_fail, made_fail, both_fail, tested_fail, fail_as, either_as, refused_as, behind_as, as_it_is}

-- ---- numbers and texts

abbrev pub FailsWide : (w : Width) → ℕ → ℕ → ℕ → WireWhy → Failure
FailsWide w limit least most for = EitherFails (EndsWithin (byte_len w)) (IsRefused (IsBelow limit) (to_be_bytes w) (IsBetween least most) for)

pub number_fail : (w : Width) → FailsAs ℕ (number_at w) (EndsWithin (byte_len w))
number_fail w = made_fail (List ℕ) ℕ (from_be_bytes w) (bytes_at (byte_len w)) (EndsWithin (byte_len w)) (bytes_fail (byte_len w))

pub range_fail : (w : Width) (limit : ℕ) → IsWide w limit → (least most : ℕ) (for : WireWhy) → FailsAs ℕ (tested (number_at w) (between least most) for) (FailsWide w limit least most for)
range_fail w limit wide least most for =
    fail_as ℕ (tested (number_at w) (between least most) for) (EitherFails (EndsWithin (byte_len w)) (IsRefused (IsBelow limit) (to_be_bytes w) (λ n. between least most n ≡ true) for)) (FailsWide w limit least most for)
    (tested_fail ℕ (IsBelow limit) (to_be_bytes w) (EndsWithin (byte_len w)) (number_at w) (between least most) for (number_codec w limit wide) (number_fail w))
    (either_as (EndsWithin (byte_len w)) (EndsWithin (byte_len w)) _ _ (as_it_is (EndsWithin (byte_len w)))
    (refused_as ℕ (IsBelow limit) (IsBelow limit) (to_be_bytes w) (λ n. between least most n ≡ true) (IsBetween least most) for (λ n h. h) (λ n _ h. in_range least most n h.0 h.1)))
    (either_as (EndsWithin (byte_len w)) (EndsWithin (byte_len w)) _ _ (as_it_is (EndsWithin (byte_len w)))
    (refused_as ℕ (IsBelow limit) (IsBelow limit) (to_be_bytes w) (IsBetween least most) (λ n. between least most n ≡ true) for (λ n h. h) (λ n _ h. within_range least most n h)))

-- a number in a range, and what stands behind it
pub numbered_fail : (Y : Type 0) (w : Width) (limit : ℕ) → IsWide w limit → (least most : ℕ) (for : WireWhy) (next : ℕ → Reader Y) (Next : ℕ → Failure) → most < limit
    → ((n : ℕ) → IsBetween least most n → FailsAs Y (next n) (Next n)) → FailsAs Y (counted (tested (number_at w) (between least most) for) next) (EitherFails (FailsWide w limit least most for) (FailsBehind (IsBetween least most) (to_be_bytes w) Next))
numbered_fail Y w limit wide least most for next Next small behind =
    fail_as Y (counted (tested (number_at w) (between least most) for) next) (EitherFails (FailsWide w limit least most for) (FailsBehind (HasRange limit least most) (to_be_bytes w) Next))
    (EitherFails (FailsWide w limit least most for) (FailsBehind (IsBetween least most) (to_be_bytes w) Next))
    (counted_fail ℕ Y (HasRange limit least most) (to_be_bytes w) (FailsWide w limit least most for) Next (tested (number_at w) (between least most) for) next
    (tested_codec ℕ (IsBelow limit) (to_be_bytes w) (number_at w) (between least most) for (number_codec w limit wide)) (range_fail w limit wide least most for)
    (λ n h. behind n (within_range least most n h.1)))
    (either_as (FailsWide w limit least most for) (FailsWide w limit least most for) _ _ (as_it_is (FailsWide w limit least most for))
    (behind_as ℕ (HasRange limit least most) (IsBetween least most) (to_be_bytes w) Next Next (λ n h. within_range least most n h.1) (λ n _. as_it_is (Next n))))
    (either_as (FailsWide w limit least most for) (FailsWide w limit least most for) _ _ (as_it_is (FailsWide w limit least most for))
    (behind_as ℕ (IsBetween least most) (HasRange limit least most) (to_be_bytes w) Next Next (λ n h. (omega (arith, h.1, small), in_range least most n h.0 h.1)) (λ n _. as_it_is (Next n))))

pub chars_fail : (test : List ℕ → Bool) (n : ℕ) → FailsAs (List ℕ) (tested (bytes_at n) test why.Text) (FailsText test n)
chars_fail test n = tested_fail (List ℕ) (IsLong n) itself (EndsWithin n) (bytes_at n) test why.Text (bytes_codec n) (bytes_fail n)

pub signed_fail : FailsAs ℤ signed_at (EndsWithin 8)
signed_fail = made_fail ℕ ℤ (cast_signed w64) (number_at w64) (EndsWithin 8) (number_fail w64)

text_fail : (room : ℕ) → room < 65536 → FailsAs (List ℕ) (text_at room) (FailsCounted 2 0 room (FailsText is_utf8))
unfolding text_at
text_fail room small = numbered_fail (List ℕ) w16 65536 wide16 0 room why.Range (λ n. tested (bytes_at n) is_utf8 why.Text) (FailsText is_utf8) small (λ n _. chars_fail is_utf8 n)

-- ---- values: a part that fails is said to

elsewhere : (pairs room : ℕ) (b c : List ℕ) (p q : ℕ) (w : WireWhy) → b ≡ c → p ≡ q → FailsPart pairs room b p w → FailsPart pairs room c q w
elsewhere pairs room b c p q w same place f = subst (λ (x : List ℕ). FailsPart pairs room x q w) same (subst (λ (n : ℕ). FailsPart pairs room b n w) place f)

-- behind the tag
under : (pairs room tag : ℕ) (bytes rest : List ℕ) (e : ℕ × WireWhy) (Where : Failure) → bytes ≡ tag ∷ rest → ((place : ℕ) (w : WireWhy) → Where rest place w → FailsPart pairs room (tag ∷ rest) (suc place) w) → Told Where rest e → Told (FailsPart pairs room) bytes e
under pairs room tag bytes rest e Where is into t =
    let long : length bytes ≡ suc (length rest) = ap (λ (b : List ℕ). length b) is in
    record { few = omega (arith, long, t.few); fails = elsewhere pairs room (tag ∷ rest) bytes (suc (length rest - e.0)) (length bytes - e.0) e.1 (sym is) (omega (arith, long, t.few)) (into (length rest - e.0) e.1 t.fails) }

abbrev IsToldTo : ℕ → Type 0
IsToldTo depth = (pairs room : ℕ) (bytes : List ℕ) (e : ℕ × WireWhy) → pairs < depth → room < 65536 → IsBytes bytes → part_at depth pairs room bytes ≡ Err e → Told (FailsPart pairs room) bytes e

made_told : (X Y : Type 0) (make : X → Y) (read : Reader X) (bytes : List ℕ) (e : ℕ × WireWhy) → made make read bytes ≡ Err e → read bytes ≡ Err e
made_told X Y make read bytes e h = by (failed (read bytes) (λ x. pure (make x.0) x.1) e h)
  where
    by : Failed (read bytes) (λ x. pure (make x.0) x.1) e → read bytes ≡ Err e
    by (at_first k) = k
    by (at_next x k l) = absurd cc

second_told : (pairs room : ℕ) (rest : List ℕ) (e : ℕ × WireWhy) (v : Val) (left spare : ℕ) (more : List ℕ) → 0 < pairs → rest ≡ spelled_value v ++ more → IsPart (pairs - 1) room v → left ≡ pairs - leaves v → spare ≡ room - text_bytes v
    → Told (FailsPart left spare) more e → Told (FailsPart pairs room) (2 ∷ rest) e
second_told pairs room rest e v left spare more some parts is left-is spare-is t =
    let m : suc (pairs - 1) ≡ pairs = omega (arith, some) in
    let long : length rest ≡ length (spelled_value v) + length more = ap (λ (b : List ℕ). length b) parts ∙ length-append (spelled_value v) more in
    let l : left ≡ suc (pairs - 1) - leaves v = omega (arith, left-is, some) in
    let inner : FailsPart (suc (pairs - 1) - leaves v) (room - text_bytes v) more (length more - e.0) e.1 =
    subst (λ (n : ℕ). FailsPart n (room - text_bytes v) more (length more - e.0) e.1) l (subst (λ (n : ℕ). FailsPart left n more (length more - e.0) e.1) spare-is t.fails) in
    let whole : FailsPart pairs room (2 ∷ (spelled_value v ++ more)) (suc (length (spelled_value v) + (length more - e.0))) e.1 =
    subst (λ (n : ℕ). FailsPart n room (2 ∷ (spelled_value v ++ more)) (suc (length (spelled_value v) + (length more - e.0))) e.1) m (in_second v is inner) in
    record {
      few = omega (arith, long, t.few);
      fails = elsewhere pairs room (2 ∷ (spelled_value v ++ more)) (2 ∷ rest) (suc (length (spelled_value v) + (length more - e.0))) (suc (length rest) - e.0) e.1 (ap (λ (b : List ℕ). 2 ∷ b) (sym parts)) (omega (arith, long, t.few)) whole;
    }

first_told : (pairs room : ℕ) (rest : List ℕ) (e : ℕ × WireWhy) → 0 < pairs → Told (FailsPart (pairs - 1) room) rest e → Told (FailsPart pairs room) (2 ∷ rest) e
first_told pairs room rest e some t =
    let m : suc (pairs - 1) ≡ pairs = omega (arith, some) in
    under pairs room 2 (2 ∷ rest) rest e (FailsPart (pairs - 1) room) refl (λ place w f. subst (λ (n : ℕ). FailsPart n room (2 ∷ rest) (suc place) w) m (in_first f)) t

pair_told : (depth pairs room : ℕ) (rest : List ℕ) (e : ℕ × WireWhy) → IsToldTo depth → 0 < pairs → pairs ≤ depth → room < 65536 → IsBytes rest → pair_behind depth pairs room rest ≡ Err e → Told (FailsPart pairs room) (2 ∷ rest) e
pair_told depth pairs room rest e shallower some deep small fits h =
    elim (failed (part_at depth (pairs - 1) room rest) (λ a. made (pair_part a.0.value) (part_at depth a.0.pairs a.0.room) a.1) e h) [
      | at_first k ↦ first_told pairs room rest e some (shallower (pairs - 1) room rest e (omega (arith, some, deep)) small fits k)
      | at_next a k l ↦
          let t = part_took depth (pairs - 1) room rest a fits k in
          let left : a.0.pairs ≡ pairs - leaves a.0.value = omega (arith, t.1.pairs_left, some) in
          let spare : a.0.room ≡ room - text_bytes a.0.value = omega (arith, t.1.room_left) in
          second_told pairs room rest e a.0.value a.0.pairs a.0.room a.1 some t.0.parts
          (record { few = omega (arith, t.1.pairs_left); small = omega (arith, t.1.room_left); parts = t.1.parts }) left spare
          (shallower a.0.pairs a.0.room a.1 e (omega (arith, left, some, deep, leaves-some a.0.value)) (omega (arith, spare, small)) t.0.behind
          (made_told Part Part (pair_part a.0.value) (part_at depth a.0.pairs a.0.room) a.1 e l))
    ]

-- one tag or another
tag_told : (depth pairs room : ℕ) (bytes : List ℕ) (tag : ℕ × List ℕ) (e : ℕ × WireWhy) → IsToldTo depth → pairs ≤ depth → room < 65536 → Takes bytes (to_be_bytes w8 tag.0) tag.1 → tag.0 ≤ 2 → behind_tag (length bytes) depth pairs room tag ≡ Err e → Told (FailsPart pairs room) bytes e
tag_told depth pairs room bytes tag e shallower deep small t most h =
    elim (chosen (eqb tag.0 0) _ _ (Err e) h) [
      | first b g ↦
          let is : bytes ≡ 0 ∷ tag.1 = t.parts ∙ ap (λ (n : ℕ). to_be_bytes w8 n ++ tag.1) (eqb-true tag.0 0 b) in
          under pairs room 0 bytes tag.1 e (EndsWithin 8) is (λ place w f. in_number f) (signed_fail.told tag.1 e t.behind (made_told ℤ Part (int_part pairs room) signed_at tag.1 e g))
      | second b g ↦ elim (chosen (eqb tag.0 1) _ _ (Err e) g) [
        | first c k ↦
            let is : bytes ≡ 1 ∷ tag.1 = t.parts ∙ ap (λ (n : ℕ). to_be_bytes w8 n ++ tag.1) (eqb-true tag.0 1 c) in
            under pairs room 1 bytes tag.1 e (FailsCounted 2 0 room (FailsText is_utf8)) is (λ place w f. in_text f) ((text_fail room small).told tag.1 e t.behind (made_told (List ℕ) Part (text_part pairs room) (text_at room) tag.1 e k))
        | second c k ↦
            let two : tag.0 ≡ 2 = omega (arith, eqb-false tag.0 0 b, eqb-false tag.0 1 c, most) in
            let is : bytes ≡ 2 ∷ tag.1 = t.parts ∙ ap (λ (n : ℕ). to_be_bytes w8 n ++ tag.1) two in
            elim (chosen (eqb pairs 0) _ _ (Err e) k) [
              | first d l ↦ no_pair (eqb-true pairs 0 d) is l
              | second d l ↦ subst (λ (x : List ℕ). Told (FailsPart pairs room) x e) (sym is) (pair_told depth pairs room tag.1 e shallower (omega (arith, eqb-false pairs 0 d)) deep small t.behind l)
            ]
      ]
    ]
  where
    no_pair : pairs ≡ 0 → bytes ≡ 2 ∷ tag.1 → error Part (length bytes) why.Range ≡ Err e → Told (FailsPart pairs room) bytes e
    no_pair none is l =
        let e-is : (length bytes, why.Range) ≡ e = cc in
        subst (Told (FailsPart pairs room) bytes) e-is
        (record {
          few = omega arith;
          fails = subst (λ (n : ℕ). FailsPart n room bytes (length bytes - length bytes) why.Range) (sym none) (elsewhere 0 room (2 ∷ tag.1) bytes 0 (length bytes - length bytes) why.Range (sym is) (omega arith) at_pair);
        })

part_told : (depth : ℕ) → IsToldTo depth
unfolding part_at
part_told zero pairs room bytes e deep small fits h = absurd (omega (arith, deep))
part_told (suc depth) pairs room bytes e deep small fits h =
    elim (failed (kind_at 0 2 bytes) (behind_tag (length bytes) depth pairs room) e h) [
      | at_first k ↦ let t = (range_fail w8 256 wide8 0 2 why.Kind).told bytes e fits k in record { few = t.few; fails = at_tag t.fails }
      | at_next tag k l ↦
          let t = (kind_codec 0 2).took bytes tag fits k in
          tag_told depth pairs room bytes tag e (part_told depth) (omega (arith, deep)) small t.0 (within_range 0 2 tag.0 t.1.1).1 l
    ]

-- ---- and where it is said to, it fails

-- behind the tag that stands there
behind_is : (depth pairs room tag : ℕ) (bytes : List ℕ) (r : Reading Part) → between 0 2 tag ≡ true → tag < 256 → to_be_bytes w8 tag ≡ tag ∷ [] → behind_tag (length (tag ∷ bytes)) depth pairs room (tag, bytes) ≡ r → part_at (suc depth) pairs room (tag ∷ bytes) ≡ r
unfolding part_at
behind_is depth pairs room tag bytes r few small one h =
    ap (λ (t : List ℕ). part_at (suc depth) pairs room (t ++ bytes)) (sym one) ∙ ap (λ (x : Reading ℕ). x >>= behind_tag (length (to_be_bytes w8 tag ++ bytes)) depth pairs room) ((kind_codec 0 2).again tag bytes (small, few))
    ∙ ap (λ (t : List ℕ). behind_tag (length (t ++ bytes)) depth pairs room (tag, bytes)) one ∙ h

-- a place behind the tag
onwards : (depth pairs room tag place : ℕ) (bytes : List ℕ) (w : WireWhy) → place ≤ length bytes → part_at depth pairs room (tag ∷ bytes) ≡ error Part (length bytes - place) w → Fails (part_at depth pairs room) (tag ∷ bytes) (suc place) w
onwards depth pairs room tag place bytes w within h = record { within = omega (arith, within); refused = h ∙ ap (λ (n : ℕ). error Part n w) (omega (arith, within)) }

first_refused : (depth pairs room place : ℕ) (bytes : List ℕ) (w : WireWhy) → Fails (part_at depth pairs room) bytes place w → Fails (part_at (suc depth) (suc pairs) room) (2 ∷ bytes) (suc place) w
first_refused depth pairs room place bytes w f =
    let some : eqb (suc pairs) 0 ≡ false = ne_eqb (suc pairs) 0 (λ e. absurd (omega (arith, e))) in
    let less : suc pairs - 1 ≡ pairs = omega arith in
    onwards (suc depth) (suc pairs) room 2 place bytes w f.within
    (behind_is depth (suc pairs) room 2 bytes (error Part (length bytes - place) w) refl (omega arith) refl
    (ap (λ (b : Bool). cond b (error Part (length (2 ∷ bytes)) why.Range) (pair_behind depth (suc pairs) room bytes)) some
    ∙ ap (λ (n : ℕ). part_at depth n room bytes >>= (λ a. made (pair_part a.0.value) (part_at depth a.0.pairs a.0.room) a.1)) less
    ∙ ap (λ (r : Reading Part). r >>= (λ a. made (pair_part a.0.value) (part_at depth a.0.pairs a.0.room) a.1)) f.refused))

second_refused : (depth pairs room place : ℕ) (v : Val) (bytes : List ℕ) (w : WireWhy) → IsPart pairs room v → pairs < depth → room < 65536 → Fails (part_at depth (suc pairs - leaves v) (room - text_bytes v)) bytes place w
    → Fails (part_at (suc depth) (suc pairs) room) (2 ∷ (spelled_value v ++ bytes)) (suc (length (spelled_value v) + place)) w
second_refused depth pairs room place v bytes w is deep small f =
    let some : eqb (suc pairs) 0 ≡ false = ne_eqb (suc pairs) 0 (λ e. absurd (omega (arith, e))) in
    let less : suc pairs - 1 ≡ pairs = omega arith in
    let long = length-append (spelled_value v) bytes in
    let left : length bytes - place ≡ length (spelled_value v ++ bytes) - (length (spelled_value v) + place) = omega (arith, long) in
    onwards (suc depth) (suc pairs) room 2 (length (spelled_value v) + place) (spelled_value v ++ bytes) w (omega (arith, long, f.within))
    (behind_is depth (suc pairs) room 2 (spelled_value v ++ bytes) (error Part (length (spelled_value v ++ bytes) - (length (spelled_value v) + place)) w) refl (omega arith) refl
    (ap (λ (b : Bool). cond b (error Part (length (2 ∷ (spelled_value v ++ bytes))) why.Range) (pair_behind depth (suc pairs) room (spelled_value v ++ bytes))) some
    ∙ ap (λ (n : ℕ). part_at depth n room (spelled_value v ++ bytes) >>= (λ a. made (pair_part a.0.value) (part_at depth a.0.pairs a.0.room) a.1)) less
    ∙ ap (λ (r : Reading Part). r >>= (λ a. made (pair_part a.0.value) (part_at depth a.0.pairs a.0.room) a.1))
    (part_again v depth pairs room (suc pairs - leaves v) (room - text_bytes v) bytes deep small (omega (arith, is.few)) (omega (arith, is.small)) is.parts)
    ∙ ap (λ (r : Reading Part). r >>= (λ a. Ok (pair_part v a.0, a.1))) f.refused
    ∙ ap (λ (n : ℕ). error Part n w) left))

no_pair_refused : (depth room : ℕ) (bytes : List ℕ) → Fails (part_at (suc depth) 0 room) (2 ∷ bytes) 0 why.Range
no_pair_refused depth room bytes = record { within = omega arith; refused = behind_is depth 0 room 2 bytes (error Part (length (2 ∷ bytes)) why.Range) refl (omega arith) refl refl ∙ ap (λ (n : ℕ). error Part n why.Range) (omega arith) }

number_refused : (depth pairs room place : ℕ) (bytes : List ℕ) (w : WireWhy) → Fails signed_at bytes place w → Fails (part_at (suc depth) pairs room) (0 ∷ bytes) (suc place) w
number_refused depth pairs room place bytes w f =
    onwards (suc depth) pairs room 0 place bytes w f.within
    (behind_is depth pairs room 0 bytes (error Part (length bytes - place) w) refl (omega arith) refl (ap (λ (r : Reading ℤ). r >>= (λ a. Ok (int_part pairs room a.0, a.1))) f.refused))

text_refused : (depth pairs room place : ℕ) (bytes : List ℕ) (w : WireWhy) → Fails (text_at room) bytes place w → Fails (part_at (suc depth) pairs room) (1 ∷ bytes) (suc place) w
text_refused depth pairs room place bytes w f =
    onwards (suc depth) pairs room 1 place bytes w f.within
    (behind_is depth pairs room 1 bytes (error Part (length bytes - place) w) refl (omega arith) refl (ap (λ (r : Reading (List ℕ)). r >>= (λ a. Ok (text_part pairs room a.0, a.1))) f.refused))

tag_refused : (depth pairs room place : ℕ) (bytes : List ℕ) (w : WireWhy) → FailsNumber 1 0 2 why.Kind bytes place w → Fails (part_at (suc depth) pairs room) bytes place w
unfolding part_at
tag_refused depth pairs room place bytes w f =
    let a = (range_fail w8 256 wide8 0 2 why.Kind).again bytes place w f in
    record { within = a.within; refused = ap (λ (r : Reading ℕ). r >>= behind_tag (length bytes) depth pairs room) a.refused }

part_refused : {pairs room : ℕ} {bytes : List ℕ} {place : ℕ} {w : WireWhy} → FailsPart pairs room bytes place w → (depth : ℕ) → pairs < depth → room < 65536 → Fails (part_at depth pairs room) bytes place w
part_refused (at_tag f) zero deep small = absurd (omega (arith, deep))
part_refused (at_tag f) (suc depth) deep small = tag_refused depth _ _ _ _ _ f
part_refused at_pair zero deep small = absurd (omega (arith, deep))
part_refused at_pair (suc depth) deep small = no_pair_refused depth _ _
part_refused (in_number f) zero deep small = absurd (omega (arith, deep))
part_refused (in_number f) (suc depth) deep small = number_refused depth _ _ _ _ _ (signed_fail.again _ _ _ f)
part_refused (in_text f) zero deep small = absurd (omega (arith, deep))
part_refused (in_text f) (suc depth) deep small = text_refused depth _ _ _ _ _ ((text_fail _ small).again _ _ _ f)
part_refused (in_first f) zero deep small = absurd (omega (arith, deep))
part_refused (in_first f) (suc depth) deep small = first_refused depth _ _ _ _ _ (part_refused f depth (omega (arith, deep)) small)
part_refused (in_second v is f) zero deep small = absurd (omega (arith, deep))
part_refused (in_second v is f) (suc depth) deep small = second_refused depth _ _ _ v _ _ is (omega (arith, deep)) small (part_refused f depth (omega (arith, deep, leaves-some v)) (omega (arith, small)))

pub value_fail : FailsAs Val value_at FailsValue
unfolding value_at
value_fail =
    made_fail Part Val part_value (part_at 8 7 256) FailsValue
    (record { told = λ bytes e fits h. part_told 8 7 256 bytes e (omega arith) (omega arith) fits h; again = λ bytes place w f. part_refused f 8 (omega arith) (omega arith) })

-- ---- tokens and rows

pub token_fail : (nodes : ℕ) → IsNodes nodes → FailsAs (Tok × Bool) (token_at nodes) (FailsToken nodes)
unfolding token_at
token_fail nodes n =
    made_fail (ℕ × (ℕ × ℕ)) (Tok × Bool) token_made (token_parts_at nodes) (FailsToken nodes)
    (numbered_fail (ℕ × (ℕ × ℕ)) w8 256 wide8 0 (nodes - 1) why.Range (λ q. made (λ y. (q, y)) (both_at (ranged_at w64 1 100000) (λ _. kind_at 0 1))) (λ _. FailsCounted 8 1 100000 (λ _. FailsNumber 1 0 1 why.Kind)) (omega (arith, n.few))
    (λ q _. made_fail (ℕ × ℕ) (ℕ × (ℕ × ℕ)) (λ y. (q, y)) (both_at (ranged_at w64 1 100000) (λ _. kind_at 0 1)) (FailsCounted 8 1 100000 (λ _. FailsNumber 1 0 1 why.Kind))
    (numbered_fail (ℕ × ℕ) w64 18446744073709551616 wide64 1 100000 why.Range (λ k. made (λ y. (k, y)) (kind_at 0 1)) (λ _. FailsNumber 1 0 1 why.Kind) (omega arith)
    (λ k _. made_fail ℕ (ℕ × ℕ) (λ y. (k, y)) (kind_at 0 1) (FailsNumber 1 0 1 why.Kind) (range_fail w8 256 wide8 0 1 why.Kind)))))

pub row_fail : (nodes : ℕ) → IsNodes nodes → FailsAs Row (row_at nodes) (FailsRow nodes)
unfolding row_at
row_fail nodes n =
    made_fail (Val × (Tok × Bool)) Row row_made (both_at value_at (λ _. token_at nodes)) (FailsRow nodes)
    (both_fail Val (Tok × Bool) IsSourceValue spelled_value FailsValue (λ _. FailsToken nodes) value_at (λ _. token_at nodes) value_codec value_fail (λ _ _. token_fail nodes n))
