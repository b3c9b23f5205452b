-- Readings at places of bytes, put together.
use Rattle.std.proofs.Common.{◌≡◌, ℕ, ◌-◌, ◌≤◌, ◌<◌, Bool, true, false, cond, eqb, leb, ◌&&◌, List, length, drop, Result, Ok, Err, refl, ap, ◌∙◌, arith}
use Rattle.std.specs.Int.{w64}
use Rattle.std.proofs.lemmas.Bool.Decides.{nat_tests}
use Rattle.std.proofs.lemmas.List.{length-drop}
use Rattle.model_graph.specs.Chain.{◌>>=◌}
use Rattle.model_wire.specs.declared.wire_why.WireWhy.{WireWhy}
use Rattle.model_wire.specs.declared.wire_why.WireWhy.TheVariants as why
use Rattle.model_wire.specs.Reader.{Reading, Reader, if_passes, counted, list_at, number_at, ranged_at, between}
use Rattle.model_wire.specs.Message.{update_limit, limited_at, nothing_more, numbers_at, decoded_from}
use Rattle.model_wire.proofs.Codecs.{test_passed}
use Rattle.model_wire.proofs.ValueLaws.{within_range, in_range}
use Rattle.lasp_wire.specs.declared.refused.WireRefused.{WireRefused}
use Rattle.lasp_wire.specs.declared.refused.WireRefused.TheVariants as refused
use Rattle.lasp_wire.specs.declared.refused.ReadError.TheVariants as error
use Rattle.lasp_wire.specs.Placed.{RefusesAt}
use Rattle.lasp_wire.specs.Decoded.{Refuses}
use Rattle.lasp_wire.proofs.Loop.{with_front, ends, is_done}
use Rattle.model_deltas.specs.Delta.{Delta}
use Rattle.model_deltas.specs.Reader.{later_count_at, next_replica, later_counts_at, delta_body_at, delta_version_at, delta_at, nothing_behind_it, read_delta, decoded_delta}

-- ---- what refuses a part refuses the whole

pub refuses-whole : (X Y : Type 0) (bytes : List ℕ) (e : WireRefused) (part : Reading X) (whole : Reading Y) → ((f : ℕ × WireWhy) → part ≡ Err f → whole ≡ Err f) → RefusesAt bytes e part → RefusesAt bytes e whole
refuses-whole X Y bytes refused.Memory part whole passes h = tt
refuses-whole X Y bytes (refused.At place why) part whole passes h = (passes (length bytes - place, why) h.0, h.1)

pub counted-err : (X Y : Type 0) (read : Reader X) (next : X → Reader Y) (bytes : List ℕ) (f : ℕ × WireWhy) → read bytes ≡ Err f → counted read next bytes ≡ Err f
counted-err X Y read next bytes f e = ap (λ (r : Reading X). r >>= λ x. next x.0 x.1) e

pub counted-ok : (X Y : Type 0) (read : Reader X) (next : X → Reader Y) (bytes : List ℕ) (x : X) (rest : List ℕ) → read bytes ≡ Ok (x, rest) → counted read next bytes ≡ next x rest
counted-ok X Y read next bytes x rest e = ap (λ (r : Reading X). r >>= λ x. next x.0 x.1) e

-- an item that can't be read ends the list
pub ends-at : (S X : Type 0) (read : S → Reader X) (next : S → X → S) (front : List X) (count i : ℕ) (s : S) (bytes : List ℕ) (total : Reading (List X)) → i < count
    → with_front front (list_at read next (count - i) s bytes) ≡ total → (f : ℕ × WireWhy) → read s bytes ≡ Err f → total ≡ Err f
ends-at S X read next front count i s bytes total lt so_far f e = ends S X read next (error.At f.0 f.1) front count i s bytes total lt e so_far

-- ---- lists of counts

abbrev pub counts_left : List ℕ → ℕ → ℕ → List ℕ → Reading (List ℕ)
counts_left front count i bytes = with_front front (list_at (limited_at update_limit) nothing_more (count - i) tt bytes)

abbrev pub all_counts : ℕ → List ℕ → Reading (List ℕ)
all_counts count bytes = list_at (limited_at update_limit) nothing_more count tt bytes

pub numbers-end : (front : List ℕ) (count i : ℕ) (bytes start : List ℕ) → i < count → counts_left front count i bytes ≡ all_counts count start → (f : ℕ × WireWhy) → ranged_at w64 0 update_limit bytes ≡ Err f → numbers_at update_limit count start ≡ Err f
unfolding numbers_at
numbers-end front count i bytes start lt so_far f e = ends-at (Unit {0}) ℕ (limited_at update_limit) nothing_more front count i tt bytes (all_counts count start) lt so_far f e

pub numbers-done : (front : List ℕ) (count i : ℕ) (bytes start : List ℕ) → count ≤ i → counts_left front count i bytes ≡ all_counts count start → numbers_at update_limit count start ≡ Ok (front, bytes)
unfolding numbers_at
numbers-done front count i bytes start past so_far = is_done (Unit {0}) ℕ (limited_at update_limit) nothing_more front count i tt bytes (all_counts count start) past so_far

abbrev pub later_left : List ℕ → List ℕ → ℕ → List ℕ → Reading (List ℕ)
later_left from front q bytes = with_front front (list_at (later_count_at from) next_replica (length from - q) q bytes)

abbrev pub all_later : List ℕ → List ℕ → Reading (List ℕ)
all_later from bytes = list_at (later_count_at from) next_replica (length from) 0 bytes

pub later-end : (from front : List ℕ) (q : ℕ) (bytes start : List ℕ) → q < length from → later_left from front q bytes ≡ all_later from start → (f : ℕ × WireWhy) → later_count_at from q bytes ≡ Err f → later_counts_at from start ≡ Err f
unfolding later_counts_at
later-end from front q bytes start lt so_far f e = ends-at ℕ ℕ (later_count_at from) next_replica front (length from) q q bytes (all_later from start) lt so_far f e

pub later-done : (from front : List ℕ) (q : ℕ) (bytes start : List ℕ) → length from ≤ q → later_left from front q bytes ≡ all_later from start → later_counts_at from start ≡ Ok (front, bytes)
unfolding later_counts_at
later-done from front q bytes start past so_far = is_done ℕ ℕ (later_count_at from) next_replica front (length from) q q bytes (all_later from start) past so_far

-- ---- counts with another least number

abbrev judged : ℕ → ℕ → Reading ℕ → Reading ℕ
judged left least r = r >>= if_passes (between least update_limit) (left, why.Range)

higher : (left least n : ℕ) (rest : List ℕ) (r : Reading ℕ) → least ≤ n → judged left 0 r ≡ Ok (n, rest) → judged left least r ≡ Ok (n, rest)
higher left least n rest (Ok x) low e =
    let g = test_passed (between 0 update_limit x.0) (left, why.Range) x (n, rest) e in
    let is : x.0 ≡ n = ap (λ (q : ℕ × List ℕ). q.0) g.1 in
    let most : x.0 ≤ update_limit = (within_range 0 update_limit x.0 g.0).1 in
    let test : between least update_limit x.0 ≡ true = in_range least update_limit x.0 (omega (arith, low, is)) most in
    ap (λ (b : Bool). cond b (Ok x) (Err (left, why.Range))) test ∙ ap (λ (q : ℕ × List ℕ). Ok q) g.1
higher left least n rest (Err f) low e = absurd cc

lower : (left least n : ℕ) (rest : List ℕ) (r : Reading ℕ) → n < least → judged left 0 r ≡ Ok (n, rest) → judged left least r ≡ Err (left, why.Range)
lower left least n rest (Ok x) low e =
    let g = test_passed (between 0 update_limit x.0) (left, why.Range) x (n, rest) e in
    let is : x.0 ≡ n = ap (λ (q : ℕ × List ℕ). q.0) g.1 in
    let short : x.0 < least = omega (arith, low, is) in
    let test : leb least x.0 ≡ false = grind (arith, nat_tests, short) in
    ap (λ (b : Bool). cond (b && leb x.0 update_limit) (Ok x) (Err (left, why.Range))) test
lower left least n rest (Err f) low e = absurd cc

pub later-low : (least n : ℕ) (bytes rest : List ℕ) → n < least → ranged_at w64 0 update_limit bytes ≡ Ok (n, rest) → ranged_at w64 least update_limit bytes ≡ Err (length bytes, why.Range)
later-low least n bytes rest low e = lower (length bytes) least n rest (number_at w64 bytes) low e

stays : (left least : ℕ) (f : ℕ × WireWhy) (r : Reading ℕ) → judged left 0 r ≡ Err f → judged left least r ≡ Err f
stays left least f (Err g) e = e
stays left least f (Ok x) e = choose (between 0 update_limit x.0) refl e where
  outside : between 0 update_limit x.0 ≡ false → between least update_limit x.0 ≡ false
  outside t = both (leb 0 x.0) (leb x.0 update_limit) (leb least x.0) (let all : leb 0 x.0 ≡ true = grind (arith, nat_tests) in all) t where
    both : (a b c : Bool) → a ≡ true → (a && b) ≡ false → (c && b) ≡ false
    both true true c t e = absurd cc
    both true false true t e = refl
    both true false false t e = refl
    both false b c t e = absurd cc

  choose : (b : Bool) → between 0 update_limit x.0 ≡ b → cond b (Ok x) (Err (left, why.Range)) ≡ Err f → judged left least (Ok x) ≡ Err f
  choose true t h = absurd cc
  choose false t h = ap (λ (b : Bool). cond b (Ok x) (Err (left, why.Range))) (outside t) ∙ h

-- ---- all of the bytes

whole : (bytes : List ℕ) (r : Result Delta (ℕ × WireWhy)) → read_delta bytes ≡ r → decoded_delta bytes ≡ decoded_from bytes r
unfolding decoded_delta
whole bytes r e = ap (decoded_from bytes) e

back : (n k : ℕ) → k ≤ n → n - (n - k) ≡ k
back n k h = omega (arith, h)

-- a part that can't be read
pub refused-all : (X : Type 0) (bytes : List ℕ) (e : WireRefused) (part : Reading X) → ((f : ℕ × WireWhy) → part ≡ Err f → delta_at bytes ≡ Err f) → RefusesAt bytes e part → Refuses e (decoded_delta bytes)
unfolding read_delta
refused-all X bytes refused.Memory part passes h = tt
refused-all X bytes (refused.At place why) part passes h =
    whole bytes (Err (length bytes - place, why)) (ap (λ (r : Reading Delta). r >>= nothing_behind_it) (passes (length bytes - place, why) h.0)) ∙ ap (λ (k : ℕ). Err (k, why)) (back (length bytes) place h.1)

-- bytes that are left
pub refused-rest : (bytes : List ℕ) (d : Delta) (behind : ℕ) → delta_at bytes ≡ Ok (d, drop behind bytes) → behind < length bytes → decoded_delta bytes ≡ Err (behind, why.Rest)
unfolding read_delta
refused-rest bytes d behind e more =
    let long : length (drop behind bytes) ≡ length bytes - behind = length-drop behind bytes in
    let test : eqb (length (drop behind bytes)) 0 ≡ false = (let some : 0 < length (drop behind bytes) = omega (arith, long, more) in grind (arith, nat_tests, some)) in
    whole bytes (Err (length (drop behind bytes), why.Rest))
    (ap (λ (r : Reading Delta). r >>= nothing_behind_it) e ∙ ap (λ (b : Bool). cond b (Ok d) (Err (length (drop behind bytes), why.Rest))) test)
    ∙ ap (λ (k : ℕ). Err (k, why.Rest)) (let same : length bytes - length (drop behind bytes) ≡ behind = omega (arith, long, more) in same)

-- none is left
pub decoded-all : (bytes : List ℕ) (d : Delta) (behind : ℕ) → delta_at bytes ≡ Ok (d, drop behind bytes) → length bytes ≤ behind → decoded_delta bytes ≡ Ok d
unfolding read_delta
decoded-all bytes d behind e all =
    let long : length (drop behind bytes) ≡ length bytes - behind = length-drop behind bytes in
    let test : eqb (length (drop behind bytes)) 0 ≡ true = (let none : length (drop behind bytes) ≡ 0 = omega (arith, long, all) in grind (arith, nat_tests, none)) in
    whole bytes (Ok d) (ap (λ (r : Reading Delta). r >>= nothing_behind_it) e ∙ ap (λ (b : Bool). cond b (Ok d) (Err (length (drop behind bytes), why.Rest))) test)

pub version-err : (bytes : List ℕ) (f : ℕ × WireWhy) → delta_version_at bytes ≡ Err f → delta_at bytes ≡ Err f
unfolding delta_at
version-err bytes f e = counted-err ℕ Delta delta_version_at (λ _. delta_body_at) bytes f e

pub version-ok : (bytes : List ℕ) (n : ℕ) (rest : List ℕ) → delta_version_at bytes ≡ Ok (n, rest) → delta_at bytes ≡ delta_body_at rest
unfolding delta_at
version-ok bytes n rest e = counted-ok ℕ Delta delta_version_at (λ _. delta_body_at) bytes n rest e
