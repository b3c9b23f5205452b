-- A reader beside the spelling that it reads: what is read is spelled so, and what is spelled so is read again. One lemma for each way to put readers together.
use Rattle.std.proofs.Common.{◌≡◌, ℕ, zero, suc, ◌+◌, ◌<◌, ◌≤◌, Bool, true, false, cond, ltb, List, [], ◌∷◌, ◌++◌, length, take, drop, Ok, Err, refl, sym, ap, subst, ◌∙◌, append_assoc, arith, inl, inr}
use Rattle.std.specs.List.{flat_map}
use Rattle.std.specs.Int.{Width, w8, w16, w32, w64, byte_len, from_be_bytes, to_be_bytes}
use Rattle.std.proofs.lemmas.Bool.{cases_lt, ltb-false, le-ltb}
use Rattle.std.proofs.lemmas.List.{take_at, drop_at, take-append-drop, length-append, length-take, get_or-drop, get_or-take, get_or_past}
use Rattle.std.proofs.lemmas.Nat.{be_bytes_2, be_bytes_4, be_bytes_8, from_be_bytes-to_be_bytes_2, from_be_bytes-to_be_bytes_4, from_be_bytes-to_be_bytes_8}
use Rattle.model_graph.specs.Chain.{◌>>=◌}
pub use Rattle.model_graph.proofs.ChainLaws.{Passed, passed}
use Rattle.model_wire.specs.declared.wire_why.WireWhy.{WireWhy}
use Rattle.model_wire.specs.declared.wire_why.WireWhy.TheVariants as why
pub use Rattle.model_wire.specs.Lawful.{IsBytes}
use Rattle.model_wire.specs.Reader.{Reader, bytes_at, if_passes, tested, paired, both_at, counted, remade, made, onto, list_at, number_at}

pub behind_drop : (n : ℕ) (bytes : List ℕ) → IsBytes bytes → IsBytes (drop n bytes)
behind_drop n bytes h i = rw get_or-drop (h (n + i))

pub within_take : (n : ℕ) (bytes : List ℕ) → IsBytes bytes → IsBytes (take n bytes)
within_take n bytes h i =
    elim (cases_lt i n) [
      | inl lt ↦ rw (get_or-take n bytes i 0 lt) (h i)
      | inr le ↦ rw (get_or_past (take n bytes) i 0 (omega (arith, length-take n bytes))) (omega arith)
    ]

-- a text was taken from the front of the bytes
pub record Takes (bytes text rest : List ℕ) : Type 0 where
  pub parts : bytes ≡ text ++ rest
  pub behind : IsBytes rest

pub takes_both : (a x b y c : List ℕ) → Takes a x b → Takes b y c → Takes a (x ++ y) c
takes_both a x b y c p q = record { parts = p.parts ∙ ap (λ (t : List ℕ). x ++ t) q.parts ∙ sym (append_assoc x y c); behind = q.behind }

pub record IsCodec (X : Type 0) (Has : X → Type 0) (spell : X → List ℕ) (read : Reader X) : Type 0 where
  pub took : (bytes : List ℕ) (x : X × List ℕ) → IsBytes bytes → read bytes ≡ Ok x → Takes bytes (spell x.0) x.1 × Has x.0
  pub again : (x : X) (rest : List ℕ) → Has x → read (spell x ++ rest) ≡ Ok (x, rest)

pub not_short : {X E : Type 0} (b : Bool) (e : E) (x y : X) → cond b (Err e) (Ok x) ≡ Ok y → (b ≡ false) × (x ≡ y)
not_short true e x y h = absurd cc
not_short false e x y h = (refl, cc)

pub test_passed : {X E : Type 0} (b : Bool) (e : E) (x y : X) → cond b (Ok x) (Err e) ≡ Ok y → (b ≡ true) × (x ≡ y)
test_passed true e x y h = (refl, cc)
test_passed false e x y h = absurd cc

-- ---- bytes and numbers

abbrev pub IsLong : ℕ → List ℕ → Type 0
IsLong n t = length t ≡ n

abbrev pub itself : List ℕ → List ℕ
itself t = t

pub bytes_codec : (n : ℕ) → IsCodec (List ℕ) (IsLong n) itself (bytes_at n)
bytes_codec n = record { took = took; again = again } where
  took : (bytes : List ℕ) (x : List ℕ × List ℕ) → IsBytes bytes → bytes_at n bytes ≡ Ok x → Takes bytes x.0 x.1 × IsLong n x.0
  took bytes x fits e =
      let g = not_short (ltb (length bytes) n) (length bytes, why.Short) (take n bytes, drop n bytes) x e in
      let long : n ≤ length bytes = ltb-false _ _ g.0 in
      subst (λ (p : List ℕ × List ℕ). Takes bytes p.0 p.1 × IsLong n p.0) g.1
      (record { parts = sym (take-append-drop n bytes); behind = behind_drop n bytes fits }, omega (arith, length-take n bytes))

  again : (x rest : List ℕ) → IsLong n x → bytes_at n (x ++ rest) ≡ Ok (x, rest)
  again x rest h =
      let long : ltb (length (x ++ rest)) n ≡ false = le-ltb _ _ (omega (arith, h, length-append x rest)) in
      rw (long, take_at x rest n h, drop_at x rest n h) refl

-- a width with the first number that it hasn't
pub record IsWide (w : Width) (limit : ℕ) : Type 0 where
  pub len : (n : ℕ) → length (to_be_bytes w n) ≡ byte_len w
  pub back : (bytes : List ℕ) → length bytes ≡ byte_len w → IsBytes bytes → to_be_bytes w (from_be_bytes w bytes) ≡ bytes
  pub again : (n : ℕ) → n < limit → from_be_bytes w (to_be_bytes w n) ≡ n
  pub below : (bytes : List ℕ) → IsBytes bytes → from_be_bytes w bytes < limit

one_byte : (bytes : List ℕ) → length bytes ≡ 1 → IsBytes bytes → to_be_bytes w8 (from_be_bytes w8 bytes) ≡ bytes
one_byte [] len fits = absurd (omega arith)
one_byte (b ∷ []) len fits = ap (λ (n : ℕ). n ∷ []) (omega (arith, fits 0))
one_byte (b ∷ c ∷ bytes) len fits = absurd (omega arith)

pub wide8 : IsWide w8 256
wide8 = record {
  len = λ n. refl;
  back = one_byte;
  again = λ n lt. omega arith;
  below = λ bytes fits. omega (arith, fits 0);
}

pub wide16 : IsWide w16 65536
wide16 = record {
  len = λ n. refl;
  back = λ bytes len fits. be_bytes_2 bytes _ len fits refl;
  again = λ n lt. from_be_bytes-to_be_bytes_2 n (omega arith);
  below = λ bytes fits. omega (arith, fits 0, fits 1);
}

pub wide32 : IsWide w32 4294967296
wide32 = record {
  len = λ n. refl;
  back = λ bytes len fits. be_bytes_4 bytes _ len fits refl;
  again = λ n lt. from_be_bytes-to_be_bytes_4 n (omega arith);
  below = λ bytes fits. omega (arith, fits 0, fits 1, fits 2, fits 3);
}

pub wide64 : IsWide w64 18446744073709551616
wide64 = record {
  len = λ n. refl;
  back = λ bytes len fits. be_bytes_8 bytes _ len fits refl;
  again = λ n lt. from_be_bytes-to_be_bytes_8 n (omega arith);
  below = λ bytes fits. omega (arith, fits 0, fits 1, fits 2, fits 3, fits 4, fits 5, fits 6, fits 7);
}

abbrev pub IsBelow : ℕ → ℕ → Type 0
IsBelow limit n = n < limit

pub number_codec : (w : Width) (limit : ℕ) → IsWide w limit → IsCodec ℕ (IsBelow limit) (to_be_bytes w) (number_at w)
number_codec w limit wide = record { took = took; again = again } where
  took : (bytes : List ℕ) (x : ℕ × List ℕ) → IsBytes bytes → number_at w bytes ≡ Ok x → Takes bytes (to_be_bytes w x.0) x.1 × IsBelow limit x.0
  took bytes x fits e =
      let p = passed (bytes_at (byte_len w) bytes) (remade (from_be_bytes w)) x e in
      let g = not_short (ltb (length bytes) (byte_len w)) (length bytes, why.Short) (take (byte_len w) bytes, drop (byte_len w) bytes) p.value p.first in
      let small : IsBytes p.value.0 = subst (λ (q : List ℕ × List ℕ). IsBytes q.0) g.1 (within_take (byte_len w) bytes fits) in
      let t = (bytes_codec (byte_len w)).took bytes p.value fits p.first in
      let spelled : to_be_bytes w (from_be_bytes w p.value.0) ≡ p.value.0 = wide.back p.value.0 t.1 small in
      let front : Takes bytes (to_be_bytes w (from_be_bytes w p.value.0)) p.value.1 = rw spelled t.0 in
      let is : (from_be_bytes w p.value.0, p.value.1) ≡ x = cc in
      subst (λ (q : ℕ × List ℕ). Takes bytes (to_be_bytes w q.0) q.1 × IsBelow limit q.0) is (front, wide.below p.value.0 small)

  again : (x : ℕ) (rest : List ℕ) → IsBelow limit x → number_at w (to_be_bytes w x ++ rest) ≡ Ok (x, rest)
  again x rest h = rw ((bytes_codec (byte_len w)).again (to_be_bytes w x) rest (wide.len x), wide.again x h) refl

-- ---- readers put together

-- what passes the test
abbrev pub HasTested : (X : Type 0) → (X → Type 0) → (X → Bool) → X → Type 0
HasTested X Has test x = Has x × (test x ≡ true)

pub tested_codec : (X : Type 0) (Has : X → Type 0) (spell : X → List ℕ) (read : Reader X) (test : X → Bool) (w : WireWhy) → IsCodec X Has spell read → IsCodec X (HasTested X Has test) spell (tested read test w)
tested_codec X Has spell read test w codec = record { took = took; again = again } where
  took : (bytes : List ℕ) (x : X × List ℕ) → IsBytes bytes → tested read test w bytes ≡ Ok x → Takes bytes (spell x.0) x.1 × HasTested X Has test x.0
  took bytes x fits e =
      let p = passed (read bytes) (if_passes test (length bytes, w)) x e in
      let t = codec.took bytes p.value fits p.first in
      let g = test_passed (test p.value.0) (length bytes, w) p.value x p.then in
      subst (λ (q : X × List ℕ). Takes bytes (spell q.0) q.1 × HasTested X Has test q.0) g.1 (t.0, (t.1, g.0))

  again : (x : X) (rest : List ℕ) → HasTested X Has test x → tested read test w (spell x ++ rest) ≡ Ok (x, rest)
  again x rest h = rw (codec.again x rest h.0, h.1) refl

-- the first, and a second that the first allows
abbrev pub HasBoth : (X Y : Type 0) → (X → Type 0) → (X → Y → Type 0) → X × Y → Type 0
HasBoth X Y HasX HasY p = HasX p.0 × HasY p.0 p.1

abbrev pub spell_both : (X Y : Type 0) → (X → List ℕ) → (Y → List ℕ) → X × Y → List ℕ
spell_both X Y spellX spellY p = spellX p.0 ++ spellY p.1

pub both_codec : (X Y : Type 0) (HasX : X → Type 0) (HasY : X → Y → Type 0) (spellX : X → List ℕ) (spellY : Y → List ℕ) (read : Reader X) (next : X → Reader Y)
    → IsCodec X HasX spellX read → ((x : X) → HasX x → IsCodec Y (HasY x) spellY (next x)) → IsCodec (X × Y) (HasBoth X Y HasX HasY) (spell_both X Y spellX spellY) (both_at read next)
both_codec X Y HasX HasY spellX spellY read next first second = record { took = took; again = again } where
  took : (bytes : List ℕ) (p : (X × Y) × List ℕ) → IsBytes bytes → both_at read next bytes ≡ Ok p → Takes bytes (spell_both X Y spellX spellY p.0) p.1 × HasBoth X Y HasX HasY p.0
  took bytes p fits e =
      let a = passed (read bytes) (λ x. next x.0 x.1 >>= paired x.0) p e in
      let s = first.took bytes a.value fits a.first in
      let b = passed (next a.value.0 a.value.1) (paired a.value.0) p a.then in
      let t = (second a.value.0 s.1).took a.value.1 b.value s.0.behind b.first in
      let is : ((a.value.0, b.value.0), b.value.1) ≡ p = cc in
      subst (λ (q : (X × Y) × List ℕ). Takes bytes (spell_both X Y spellX spellY q.0) q.1 × HasBoth X Y HasX HasY q.0) is
      (takes_both bytes (spellX a.value.0) a.value.1 (spellY b.value.0) b.value.1 s.0 t.0, (s.1, t.1))

  again : (p : X × Y) (rest : List ℕ) → HasBoth X Y HasX HasY p → both_at read next (spell_both X Y spellX spellY p ++ rest) ≡ Ok (p, rest)
  again p rest h =
      rw (append_assoc (spellX p.0) (spellY p.1) rest, first.again p.0 (spellY p.1 ++ rest) h.0, (second p.0 h.0).again p.1 rest h.1) refl

-- a content whose number or kind stands before it
abbrev pub spell_counted : (X Y : Type 0) → (X → List ℕ) → (Y → X) → (Y → List ℕ) → Y → List ℕ
spell_counted X Y spellX told spellY y = spellX (told y) ++ spellY y

abbrev pub HasCounted : (X Y : Type 0) → (X → Type 0) → (Y → X) → (X → Y → Type 0) → Y → Type 0
HasCounted X Y HasX told HasY y = HasX (told y) × HasY (told y) y

pub counted_codec : (X Y : Type 0) (HasX : X → Type 0) (HasY : X → Y → Type 0) (spellX : X → List ℕ) (spellY : Y → List ℕ) (told : Y → X) (read : Reader X) (next : X → Reader Y)
    → IsCodec X HasX spellX read → ((x : X) → HasX x → IsCodec Y (HasY x) spellY (next x)) → ((x : X) (y : Y) → HasX x → HasY x y → told y ≡ x)
    → IsCodec Y (HasCounted X Y HasX told HasY) (spell_counted X Y spellX told spellY) (counted read next)
counted_codec X Y HasX HasY spellX spellY told read next first second tells = record { took = took; again = again } where
  took : (bytes : List ℕ) (y : Y × List ℕ) → IsBytes bytes → counted read next bytes ≡ Ok y → Takes bytes (spell_counted X Y spellX told spellY y.0) y.1 × HasCounted X Y HasX told HasY y.0
  took bytes y fits e =
      let a = passed (read bytes) (λ x. next x.0 x.1) y e in
      let s = first.took bytes a.value fits a.first in
      let t = (second a.value.0 s.1).took a.value.1 y s.0.behind a.then in
      let is : a.value.0 ≡ told y.0 = sym (tells a.value.0 y.0 s.1 t.1) in
      subst (λ (x : X). Takes bytes (spellX x ++ spellY y.0) y.1 × (HasX x × HasY x y.0)) is
      (takes_both bytes (spellX a.value.0) a.value.1 (spellY y.0) y.1 s.0 t.0, (s.1, t.1))

  again : (y : Y) (rest : List ℕ) → HasCounted X Y HasX told HasY y → counted read next (spell_counted X Y spellX told spellY y ++ rest) ≡ Ok (y, rest)
  again y rest h =
      rw (append_assoc (spellX (told y)) (spellY y) rest, first.again (told y) (spellY y ++ rest) h.0) ((second (told y) h.0).again y rest h.1)

-- the parts of what is said otherwise
pub record IsRemade (X Y : Type 0) (HasX : X → Type 0) (HasY : Y → Type 0) (spellX : X → List ℕ) (spellY : Y → List ℕ) (make : X → Y) (parts : Y → X) : Type 0 where
  pub has : (x : X) → HasX x → HasY (make x)
  pub spelled : (x : X) → HasX x → spellX x ≡ spellY (make x)
  pub has_parts : (y : Y) → HasY y → HasX (parts y)
  pub remakes : (y : Y) → HasY y → make (parts y) ≡ y

pub made_codec : (X Y : Type 0) (HasX : X → Type 0) (HasY : Y → Type 0) (spellX : X → List ℕ) (spellY : Y → List ℕ) (make : X → Y) (parts : Y → X) (read : Reader X)
    → IsCodec X HasX spellX read → IsRemade X Y HasX HasY spellX spellY make parts → IsCodec Y HasY spellY (made make read)
made_codec X Y HasX HasY spellX spellY make parts read codec re = record { took = took; again = again } where
  took : (bytes : List ℕ) (y : Y × List ℕ) → IsBytes bytes → made make read bytes ≡ Ok y → Takes bytes (spellY y.0) y.1 × HasY y.0
  took bytes y fits e =
      let p = passed (read bytes) (remade make) y e in
      let t = codec.took bytes p.value fits p.first in
      let is : (make p.value.0, p.value.1) ≡ y = cc in
      subst (λ (q : Y × List ℕ). Takes bytes (spellY q.0) q.1 × HasY q.0) is
      (subst (λ (text : List ℕ). Takes bytes text p.value.1) (re.spelled p.value.0 t.1) t.0, re.has p.value.0 t.1)

  again : (y : Y) (rest : List ℕ) → HasY y → made make read (spellY y ++ rest) ≡ Ok (y, rest)
  again y rest h =
      let text : spellY y ≡ spellX (parts y) = ap spellY (sym (re.remakes y h)) ∙ sym (re.spelled (parts y) (re.has_parts y h)) in
      let one : made make read (spellX (parts y) ++ rest) ≡ Ok (make (parts y), rest) = rw (codec.again (parts y) rest (re.has_parts y h)) refl in
      rw text (one ∙ ap (λ (z : Y). Ok (z, rest)) (re.remakes y h))

-- what is had, said otherwise
pub has_codec : (X : Type 0) (Has Known : X → Type 0) (spell : X → List ℕ) (read : Reader X) → IsCodec X Has spell read → ((x : X) → Has x → Known x) → ((x : X) → Known x → Has x) → IsCodec X Known spell read
has_codec X Has Known spell read codec there back = record {
  took = λ bytes x fits e. let t = codec.took bytes x fits e in (t.0, there x.0 t.1);
  again = λ x rest h. codec.again x rest (back x h);
}

-- the spelling, said otherwise
pub spelled_codec : (X : Type 0) (Has : X → Type 0) (spell told : X → List ℕ) (read : Reader X) → IsCodec X Has spell read → ((x : X) → Has x → spell x ≡ told x) → IsCodec X Has told read
spelled_codec X Has spell told read codec same = record {
  took = λ bytes x fits e. let t = codec.took bytes x fits e in (subst (λ (text : List ℕ). Takes bytes text x.1) (same x.0 t.1) t.0, t.1);
  again = λ x rest h. ap (λ (text : List ℕ). read (text ++ rest)) (sym (same x h)) ∙ codec.again x rest h;
}

-- ---- lists

-- so many items, each of which those before it allow
abbrev pub AllHave : (S X : Type 0) → (S → X → Type 0) → (S → X → S) → S → List X → Type 0
AllHave S X Has next s [] = Unit {0}
AllHave S X Has next s (x ∷ xs) = Has s x × AllHave S X Has next (next s x) xs

abbrev pub HasMany : (S X : Type 0) → (S → X → Type 0) → (S → X → S) → ℕ → S → List X → Type 0
HasMany S X Has next n s xs = (length xs ≡ n) × AllHave S X Has next s xs

abbrev pub spell_all : (X : Type 0) → (X → List ℕ) → List X → List ℕ
spell_all X spell xs = flat_map spell xs

list_took : (S X : Type 0) (Has : S → X → Type 0) (spell : X → List ℕ) (read : S → Reader X) (next : S → X → S) → ((s : S) → IsCodec X (Has s) spell (read s))
    → (n : ℕ) (s : S) (bytes : List ℕ) (xs : List X × List ℕ) → IsBytes bytes → list_at read next n s bytes ≡ Ok xs → Takes bytes (spell_all X spell xs.0) xs.1 × HasMany S X Has next n s xs.0
unfolding list_at
list_took S X Has spell read next codec zero s bytes xs fits e =
    let is : ([], bytes) ≡ xs = cc in
    subst (λ (q : List X × List ℕ). Takes bytes (spell_all X spell q.0) q.1 × HasMany S X Has next zero s q.0) is (record { parts = refl; behind = fits }, (refl, tt))
list_took S X Has spell read next codec (suc n) s bytes xs fits e =
    let a = passed (read s bytes) (λ x. list_at read next n (next s x.0) x.1 >>= onto x.0) xs e in
    let t = (codec s).took bytes a.value fits a.first in
    let b = passed (list_at read next n (next s a.value.0) a.value.1) (onto a.value.0) xs a.then in
    let u = list_took S X Has spell read next codec n (next s a.value.0) a.value.1 b.value t.0.behind b.first in
    let is : (a.value.0 ∷ b.value.0, b.value.1) ≡ xs = cc in
    subst (λ (q : List X × List ℕ). Takes bytes (spell_all X spell q.0) q.1 × HasMany S X Has next (suc n) s q.0) is
    (takes_both bytes (spell a.value.0) a.value.1 (spell_all X spell b.value.0) b.value.1 t.0 u.0, (ap (λ (m : ℕ). suc m) u.1.0, (t.1, u.1.1)))

list_again : (S X : Type 0) (Has : S → X → Type 0) (spell : X → List ℕ) (read : S → Reader X) (next : S → X → S) → ((s : S) → IsCodec X (Has s) spell (read s))
    → (n : ℕ) (s : S) (xs : List X) (rest : List ℕ) → length xs ≡ n → AllHave S X Has next s xs → list_at read next n s (spell_all X spell xs ++ rest) ≡ Ok (xs, rest)
unfolding list_at
list_again S X Has spell read next codec zero s [] rest len all = refl
list_again S X Has spell read next codec zero s (x ∷ xs) rest len all = absurd (omega arith)
list_again S X Has spell read next codec (suc n) s [] rest len all = absurd (omega arith)
list_again S X Has spell read next codec (suc n) s (x ∷ xs) rest len all =
    rw (
      append_assoc (spell x) (spell_all X spell xs) rest,
      (codec s).again x (spell_all X spell xs ++ rest) all.0,
      list_again S X Has spell read next codec n (next s x) xs rest (omega arith) all.1,
    ) refl

pub list_codec : (S X : Type 0) (Has : S → X → Type 0) (spell : X → List ℕ) (read : S → Reader X) (next : S → X → S) → ((s : S) → IsCodec X (Has s) spell (read s))
    → (n : ℕ) (s : S) → IsCodec (List X) (HasMany S X Has next n s) (spell_all X spell) (list_at read next n s)
list_codec S X Has spell read next codec n s = record {
  took = list_took S X Has spell read next codec n s;
  again = λ xs rest h. list_again S X Has spell read next codec n s xs rest h.0 h.1;
}
