-- Numbers, texts, values, tokens and rows beside their spellings.
use Rattle.std.proofs.Common.{◌≡◌, ℕ, zero, suc, ◌+◌, ◌-◌, ◌<◌, ◌≤◌, Bool, true, false, cond, eqb, leb, List, ◌++◌, length, Ok, Err, ℤ, refl, sym, ap, subst, append_assoc, arith}
use Rattle.std.specs.Prelude.{FitsSigned}
use Rattle.std.specs.Str.{is_utf8}
use Rattle.std.specs.Int.{Width, w8, w16, w64, cast_signed, cast_unsigned, to_be_bytes}
use Rattle.std.proofs.lemmas.Int.{to_z-of_z, of_z-to_z}
use mir.ValLaws.{to_z-Fits, of_z_fits}
use Rattle.model_values.specs.Value.{Val, int, text, pair}
use Rattle.model_values.specs.Size.{leaves, text_bytes}
use Rattle.model_graph.specs.Spelling.{signed_number, spelled_value}
use Rattle.std.proofs.lemmas.Bool.{and_parts, and_from, leb-true, le-leb, eqb-true, eqb-false, ne_eqb}
use Rattle.model_values.proofs.SizeLaws.{leaves-some}
use Rattle.model_wire.specs.declared.wire_why.WireWhy.TheVariants as why
use Rattle.model_wire.specs.Reader.{Reading, Reader, bytes_at, tested, counted, remade, made, number_at, ranged_at, kind_at, between}
use Rattle.model_wire.specs.Value.{signed_at, text_at, Part, part, int_part, text_part, pair_part, part_at, part_value, value_at}
use Rattle.model_wire.specs.Lawful.{IsSpellable, IsSourceValue}
use Rattle.model_wire.proofs.Codecs.{IsBytes, Takes, takes_both, IsCodec, IsLong, itself, bytes_codec, IsWide, wide8, wide16, wide64, IsBelow, number_codec, HasTested, tested_codec, counted_codec, made_codec, passed}

-- a number of a range
abbrev pub HasRange : ℕ → ℕ → ℕ → ℕ → Type 0
HasRange limit least most = HasTested ℕ (IsBelow limit) (between least most)

pub ranged_codec : (w : Width) (limit : ℕ) → IsWide w limit → (least most : ℕ) → IsCodec ℕ (HasRange limit least most) (to_be_bytes w) (ranged_at w least most)
ranged_codec w limit wide least most = tested_codec ℕ (IsBelow limit) (to_be_bytes w) (number_at w) (between least most) why.Range (number_codec w limit wide)

pub kind_codec : (least most : ℕ) → IsCodec ℕ (HasRange 256 least most) (to_be_bytes w8) (kind_at least most)
kind_codec least most = tested_codec ℕ (IsBelow 256) (to_be_bytes w8) (number_at w8) (between least most) why.Kind (number_codec w8 256 wide8)

pub signed_codec : IsCodec ℤ (FitsSigned w64) signed_number signed_at
signed_codec =
    made_codec ℕ ℤ (IsBelow 18446744073709551616) (FitsSigned w64) (to_be_bytes w64) signed_number (cast_signed w64) (cast_unsigned w64) (number_at w64) (number_codec w64 18446744073709551616 wide64)
    (record {
      has = λ n h. to_z-Fits w64 n (record { fits = h });
      spelled = λ n h. ap (to_be_bytes w64) (sym (of_z-to_z w64 n h));
      has_parts = λ z h. (of_z_fits w64 z h).fits;
      remakes = λ z h. to_z-of_z w64 z h;
    })

abbrev pub HasText : ℕ → List ℕ → Type 0
HasText room t = HasRange 65536 0 room (length t) × HasTested (List ℕ) (IsLong (length t)) is_utf8 t

abbrev pub spelled_text : List ℕ → List ℕ
spelled_text t = to_be_bytes w16 (length t) ++ t

pub text_codec : (room : ℕ) → IsCodec (List ℕ) (HasText room) spelled_text (text_at room)
unfolding text_at
text_codec room =
    counted_codec ℕ (List ℕ) (HasRange 65536 0 room) (λ n. HasTested (List ℕ) (IsLong n) is_utf8) (to_be_bytes w16) itself length (ranged_at w16 0 room) (λ n. tested (bytes_at n) is_utf8 why.Text)
    (ranged_codec w16 65536 wide16 0 room) (λ n h. tested_codec (List ℕ) (IsLong n) itself (bytes_at n) is_utf8 why.Text (bytes_codec n)) (λ n t h k. k.0)

-- ---- values

-- the range that a test of it tells
pub within_range : (least most n : ℕ) → between least most n ≡ true → (least ≤ n) × (n ≤ most)
within_range least most n h =
    let both = and_parts (leb least n) (leb n most) h in
    (leb-true least n both.0, leb-true n most both.1)

pub in_range : (least most n : ℕ) → least ≤ n → n ≤ most → between least most n ≡ true
in_range least most n low high = and_from (leb least n) (leb n most) (le-leb least n low) (le-leb n most high)

-- which way a choice went
pub data Chosen {A : Type 0} (b : Bool) (x y z : A) : Type 0 where
  first : b ≡ true → x ≡ z → Chosen b x y z
  second : b ≡ false → y ≡ z → Chosen b x y z

pub chosen : {A : Type 0} (b : Bool) (x y z : A) → cond b x y ≡ z → Chosen b x y z
chosen true x y z h = first refl h
chosen false x y z h = second refl h

-- a value with what is left of the pairs and of the bytes of text that may stand in it
pub record HasPart (pairs room : ℕ) (p : Part) : Type 0 where
  pub pairs_left : leaves p.value + p.pairs ≡ pairs + 1
  pub room_left : text_bytes p.value + p.room ≡ room
  pub parts : IsSpellable p.value

abbrev PartRead : ℕ → ℕ → List ℕ → Part × List ℕ → Type 0
PartRead pairs room bytes p = Takes bytes (spelled_value p.0.value) p.1 × HasPart pairs room p.0

abbrev pub pair_behind : ℕ → ℕ → ℕ → Reader Part
pair_behind depth pairs room = counted (part_at depth (pairs - 1) room) (λ a. made (pair_part a.value) (part_at depth a.pairs a.room))

abbrev pub behind_tag : ℕ → ℕ → ℕ → ℕ → ℕ × List ℕ → Reading Part
behind_tag left depth pairs room tag =
    cond (eqb tag.0 0) (made (int_part pairs room) signed_at tag.1) (cond (eqb tag.0 1) (made (text_part pairs room) (text_at room) tag.1) (cond (eqb pairs 0) (Err (left, why.Range)) (pair_behind depth pairs room tag.1)))

int_took : (pairs room : ℕ) (bytes : List ℕ) (tag : ℕ × List ℕ) (p : Part × List ℕ) → Takes bytes (to_be_bytes w8 tag.0) tag.1 → tag.0 ≡ 0 → made (int_part pairs room) signed_at tag.1 ≡ Ok p → PartRead pairs room bytes p
int_took pairs room bytes tag p t is-tag h =
    let b = passed (signed_at tag.1) (remade (int_part pairs room)) p h in
    let s = signed_codec.took tag.1 b.value t.behind b.first in
    let is : (int_part pairs room b.value.0, b.value.1) ≡ p = cc in
    let front : Takes bytes (to_be_bytes w8 0) tag.1 = subst (λ (n : ℕ). Takes bytes (to_be_bytes w8 n) tag.1) is-tag t in
    subst (PartRead pairs room bytes) is
    (takes_both bytes (to_be_bytes w8 0) tag.1 (signed_number b.value.0) b.value.1 front s.0, record { pairs_left = omega arith; room_left = omega arith; parts = s.1 })

text_took : (pairs room : ℕ) (bytes : List ℕ) (tag : ℕ × List ℕ) (p : Part × List ℕ) → Takes bytes (to_be_bytes w8 tag.0) tag.1 → tag.0 ≡ 1 → made (text_part pairs room) (text_at room) tag.1 ≡ Ok p → PartRead pairs room bytes p
text_took pairs room bytes tag p t is-tag h =
    let b = passed (text_at room tag.1) (remade (text_part pairs room)) p h in
    let s = (text_codec room).took tag.1 b.value t.behind b.first in
    let is : (text_part pairs room b.value.0, b.value.1) ≡ p = cc in
    let front : Takes bytes (to_be_bytes w8 1) tag.1 = subst (λ (n : ℕ). Takes bytes (to_be_bytes w8 n) tag.1) is-tag t in
    let small = (within_range 0 room (length b.value.0) s.1.0.1).1 in
    subst (PartRead pairs room bytes) is
    (takes_both bytes (to_be_bytes w8 1) tag.1 (spelled_text b.value.0) b.value.1 front s.0, record { pairs_left = omega arith; room_left = omega (arith, small); parts = s.1.1.1 })

-- what a reader of one depth took
abbrev pub Took : ℕ → Type 0
Took depth = (pairs room : ℕ) (bytes : List ℕ) (p : Part × List ℕ) → IsBytes bytes → part_at depth pairs room bytes ≡ Ok p → PartRead pairs room bytes p

pair_took : (depth pairs room : ℕ) (bytes : List ℕ) (tag : ℕ × List ℕ) (p : Part × List ℕ) → Took depth → Takes bytes (to_be_bytes w8 tag.0) tag.1 → tag.0 ≡ 2 → 0 < pairs → pair_behind depth pairs room tag.1 ≡ Ok p → PartRead pairs room bytes p
pair_took depth pairs room bytes tag p shallower t is-tag some h =
    let b = passed (part_at depth (pairs - 1) room tag.1) (λ x. made (pair_part x.0.value) (part_at depth x.0.pairs x.0.room) x.1) p h in
    let u = shallower (pairs - 1) room tag.1 b.value t.behind b.first in
    let c = passed (part_at depth b.value.0.pairs b.value.0.room b.value.1) (remade (pair_part b.value.0.value)) p b.then in
    let v = shallower b.value.0.pairs b.value.0.room b.value.1 c.value u.0.behind c.first in
    let is : (pair_part b.value.0.value c.value.0, c.value.1) ≡ p = cc in
    let front : Takes bytes (to_be_bytes w8 2) tag.1 = subst (λ (n : ℕ). Takes bytes (to_be_bytes w8 n) tag.1) is-tag t in
    let parts = takes_both tag.1 (spelled_value b.value.0.value) b.value.1 (spelled_value c.value.0.value) c.value.1 u.0 v.0 in
    subst (PartRead pairs room bytes) is (
      takes_both bytes (to_be_bytes w8 2) tag.1 (spelled_value b.value.0.value ++ spelled_value c.value.0.value) c.value.1 front parts,
      record { pairs_left = omega (arith, some, u.1.pairs_left, v.1.pairs_left); room_left = omega (arith, u.1.room_left, v.1.room_left); parts = (u.1.parts, v.1.parts) },
    )

pub part_took : (depth : ℕ) → Took depth
unfolding part_at
part_took zero pairs room bytes p fits e = absurd cc
part_took (suc depth) pairs room bytes p fits e =
    let a = passed (kind_at 0 2 bytes) (behind_tag (length bytes) depth pairs room) p e in
    let t = (kind_codec 0 2).took bytes a.value fits a.first in
    let most = (within_range 0 2 a.value.0 t.1.1).1 in
    elim (chosen (eqb a.value.0 0) _ _ (Ok p) a.then) [
      | first b h ↦ int_took pairs room bytes a.value p t.0 (eqb-true a.value.0 0 b) h
      | second b h ↦ elim (chosen (eqb a.value.0 1) _ _ (Ok p) h) [
        | first c k ↦ text_took pairs room bytes a.value p t.0 (eqb-true a.value.0 1 c) k
        | second c k ↦ elim (chosen (eqb pairs 0) _ _ (Ok p) k) [
          | first d l ↦ absurd cc
          | second d l ↦ pair_took depth pairs room bytes a.value p (part_took depth) t.0 (omega (arith, eqb-false a.value.0 0 b, eqb-false a.value.0 1 c, most)) (omega (arith, eqb-false pairs 0 d)) l
        ]
      ]
    ]

-- what is spelled so is read, with so much left of the budgets
abbrev pub Again : Val → Type 0
Again v = (depth pairs room p q : ℕ) (rest : List ℕ) → pairs < depth → room < 65536 → leaves v + p ≡ pairs + 1 → text_bytes v + q ≡ room → IsSpellable v → part_at depth pairs room (spelled_value v ++ rest) ≡ Ok (part v p q, rest)

int_again : (n : ℤ) → Again (int n)
unfolding part_at
int_again n zero pairs room p q rest deep small has-pairs has-room fits = absurd (omega arith)
int_again n (suc depth) pairs room p q rest deep small has-pairs has-room fits =
    let is-p : pairs ≡ p = omega arith in
    let is-q : room ≡ q = omega arith in
    rw (← is-p, ← is-q, (kind_codec 0 2).again 0 (signed_number n ++ rest) (omega arith, refl), signed_codec.again n rest fits) refl

text_again : (t : List ℕ) → Again (text t)
unfolding part_at
text_again t zero pairs room p q rest deep small has-pairs has-room fits = absurd (omega arith)
text_again t (suc depth) pairs room p q rest deep small has-pairs has-room fits =
    let is-p : pairs ≡ p = omega arith in
    let is-q : room - length t ≡ q = omega arith in
    let has : HasText room t = ((omega arith, in_range 0 room (length t) (omega arith) (omega arith)), (refl, fits)) in
    rw (← is-p, ← is-q, (kind_codec 0 2).again 1 (spelled_text t ++ rest) (omega arith, refl), (text_codec room).again t rest has) refl

pair_again : (a b : Val) → Again a → Again b → Again (pair a b)
unfolding part_at
pair_again a b front back zero pairs room p q rest deep small has-pairs has-room fits = absurd (omega arith)
pair_again a b front back (suc depth) pairs room p q rest deep small has-pairs has-room fits =
    let some = leaves-some a in
    let more = leaves-some b in
    let not-none : eqb pairs 0 ≡ false = ne_eqb pairs 0 (λ e. absurd (omega (arith, some, more))) in
    rw (
      append_assoc (spelled_value a) (spelled_value b) rest,
      (kind_codec 0 2).again 2 (spelled_value a ++ (spelled_value b ++ rest)) (omega arith, refl),
      not-none,
      front depth (pairs - 1) room (pairs - leaves a) (room - text_bytes a) (spelled_value b ++ rest) (omega (arith, some, more)) small (omega (arith, some, more)) (omega arith) fits.0,
      back depth (pairs - leaves a) (room - text_bytes a) p q rest (omega (arith, some, more)) (omega arith) (omega (arith, some, more)) (omega arith) fits.1,
    ) refl

pub part_again : (v : Val) → Again v
part_again (int n) = int_again n
part_again (text t) = text_again t
part_again (pair a b) = pair_again a b (part_again a) (part_again b)

abbrev part_spelled : Part → List ℕ
part_spelled p = spelled_value p.value

part_codec : IsCodec Part (HasPart 7 256) part_spelled (part_at 8 7 256)
part_codec = record {
  took = part_took 8 7 256;
  again = λ p rest h. part_again p.value 8 7 256 p.pairs p.room rest (omega arith) (omega arith) h.pairs_left h.room_left h.parts;
}

abbrev value_part : Val → Part
value_part v = part v (8 - leaves v) (256 - text_bytes v)

pub value_codec : IsCodec Val IsSourceValue spelled_value value_at
unfolding value_at
value_codec =
    made_codec Part Val (HasPart 7 256) IsSourceValue part_spelled spelled_value part_value value_part (part_at 8 7 256) part_codec
    (record {
      has = λ p h. record { size = record { leaves = omega (arith, h.pairs_left); bytes = omega (arith, h.room_left) }; parts = h.parts };
      spelled = λ p h. refl;
      has_parts = λ v h. record { pairs_left = omega (arith, h.size.leaves); room_left = omega (arith, h.size.bytes); parts = h.parts };
      remakes = λ v h. refl;
    })
