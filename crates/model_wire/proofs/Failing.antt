-- A reader beside the relation that says where it fails: it fails there and nowhere else. One lemma for each way to put readers together.
use Rattle.std.proofs.Common.{◌≡◌, inl, inr, ℕ, zero, suc, ◌+◌, ◌-◌, ◌<◌, ◌≤◌, Bool, true, false, cond, ltb, List, [], ◌∷◌, ◌++◌, length, take, drop, Result, Ok, Err, refl, sym, ap, subst, ◌∙◌, append_assoc, arith}
use Rattle.std.proofs.lemmas.Bool.{ltb-true, lt-ltb, false_from_ne_true, both_ways}
use Rattle.std.proofs.lemmas.List.{length-append}
use Rattle.model_graph.specs.Chain.{◌>>=◌}
use Rattle.model_wire.specs.declared.wire_why.WireWhy.{WireWhy}
use Rattle.model_wire.specs.declared.wire_why.WireWhy.TheVariants as why
use Rattle.model_wire.specs.Reader.{Reading, Reader, bytes_at, if_passes, tested, both_at, counted, made, list_at}
use Rattle.model_wire.specs.Stuck.{Failure, EndsWithin, IsRefused, FailsBehind, EitherFails}
use Rattle.model_wire.proofs.Codecs.{IsBytes, IsCodec, AllHave, spell_all}

-- what a failing reader told: a place among the bytes, where they fail
pub record Told (Fails : Failure) (bytes : List ℕ) (e : ℕ × WireWhy) : Type 0 where
  pub few : e.0 ≤ length bytes
  pub fails : Fails bytes (length bytes - e.0) e.1

-- the reader fails at this place
pub record Fails {X : Type 0} (read : Reader X) (bytes : List ℕ) (place : ℕ) (w : WireWhy) : Type 0 where
  pub within : place ≤ length bytes
  pub refused : read bytes ≡ Err (length bytes - place, w)

pub record FailsAs (X : Type 0) (read : Reader X) (Where : Failure) : Type 0 where
  pub told : (bytes : List ℕ) (e : ℕ × WireWhy) → IsBytes bytes → read bytes ≡ Err e → Told Where bytes e
  pub again : (bytes : List ℕ) (place : ℕ) (w : WireWhy) → Where bytes place w → Fails read bytes place w

-- the first step of a chain failed, or it passed and the next failed
pub data Failed {A B E : Type 0} (r : Result A E) (f : A → Result B E) (e : E) : Type 0 where
  at_first : r ≡ Err e → Failed r f e
  at_next : (x : A) → r ≡ Ok x → f x ≡ Err e → Failed r f e

err-is : (A B E : Type 0) (d e : E) (r s : Result B E) → r ≡ s → r ≡ Err d → s ≡ Err e → d ≡ e
err-is A B E d e r s h k l = cc

pub failed : {A B E : Type 0} (r : Result A E) (f : A → Result B E) (e : E) → (r >>= f) ≡ Err e → Failed r f e
failed {A = A} {B = B} {E = E} (Ok x) f e h = at_next x refl h
failed {A = A} {B = B} {E = E} (Err d) f e h = at_first (ap Err (err-is A B E d e (Err d >>= f) (Err e) h refl refl))

-- a place behind something at the front
behind : (whole text more : List ℕ) → whole ≡ text ++ more → length whole ≡ length text + length more
behind whole text more parts = ap (λ (b : List ℕ). length b) parts ∙ length-append text more

abbrev pub error : (X : Type 0) → ℕ → WireWhy → Reading X
error X left w = Err (left, w)

moved : (X : Type 0) (m n : ℕ) (w : WireWhy) → m ≡ n → error X m w ≡ error X n w
moved X m n w is = ap (λ (k : ℕ). error X k w) is

-- ---- fields

abbrev cut : ℕ → List ℕ → Reading (List ℕ)
cut n bytes = Ok (take n bytes, drop n bytes)

short : (n : ℕ) (bytes : List ℕ) (b : Bool) → ltb (length bytes) n ≡ b → (e : ℕ × WireWhy) → cond b (error (List ℕ) (length bytes) why.Short) (cut n bytes) ≡ Err e → Told (EndsWithin n) bytes e
short n bytes true lt e h =
    let is : (length bytes, why.Short) ≡ e = cc in
    subst (Told (EndsWithin n) bytes) is (record { few = omega arith; fails = record { few = ltb-true (length bytes) n lt; at_front = omega arith; cause = refl } })
short n bytes false lt e h = absurd cc

pub bytes_fail : (n : ℕ) → FailsAs (List ℕ) (bytes_at n) (EndsWithin n)
bytes_fail n = record {
  told = λ bytes e fits h. short n bytes (ltb (length bytes) n) refl e h;
  again = λ bytes place w f. record {
    within = omega (arith, f.at_front);
    refused =
        ap (λ (b : Bool). cond b (error (List ℕ) (length bytes) why.Short) (cut n bytes)) (lt-ltb (length bytes) n f.few)
        ∙ moved (List ℕ) (length bytes) (length bytes - place) why.Short (omega (arith, f.at_front)) ∙ ap (λ (v : WireWhy). error (List ℕ) (length bytes - place) v) (sym f.cause);
  };
}

-- ---- steps

pub counted_fail : (X Y : Type 0) (Has : X → Type 0) (spell : X → List ℕ) (First : Failure) (Next : X → Failure) (read : Reader X) (next : X → Reader Y)
    → IsCodec X Has spell read → FailsAs X read First → ((x : X) → Has x → FailsAs Y (next x) (Next x)) → FailsAs Y (counted read next) (EitherFails First (FailsBehind Has spell Next))
counted_fail X Y Has spell First Next read next codec first second = record { told = told; again = again } where
  told : (bytes : List ℕ) (e : ℕ × WireWhy) → IsBytes bytes → counted read next bytes ≡ Err e → Told (EitherFails First (FailsBehind Has spell Next)) bytes e
  told bytes e fits h = by (failed (read bytes) (λ x. next x.0 x.1) e h)
    where
      by : Failed (read bytes) (λ x. next x.0 x.1) e → Told (EitherFails First (FailsBehind Has spell Next)) bytes e
      by (at_first k) = let t = first.told bytes e fits k in record { few = t.few; fails = inl t.fails }
      by (at_next x k l) =
          let s = codec.took bytes x fits k in
          let u = (second x.0 s.1).told x.1 e s.0.behind l in
          let long = behind bytes (spell x.0) x.1 s.0.parts in
          record {
            few = omega (arith, long, u.few);
            fails = inr (record { item = x.0; is = s.1; more = x.1; parts = s.0.parts; offset = length x.1 - e.0; fails = u.fails; place_is = omega (arith, long, u.few) });
          }

  again : (bytes : List ℕ) (place : ℕ) (w : WireWhy) → EitherFails First (FailsBehind Has spell Next) bytes place w → Fails (counted read next) bytes place w
  again bytes place w (inl f) = let a = first.again bytes place w f in record { within = a.within; refused = ap (λ (r : Reading X). r >>= (λ x. next x.0 x.1)) a.refused }
  again bytes place w (inr f) =
      let a = (second f.item f.is).again f.more f.offset w f.fails in
      let long = behind bytes (spell f.item) f.more f.parts in
      record {
        within = omega (arith, long, a.within, f.place_is);
        refused =
            ap (counted read next) f.parts ∙ ap (λ (r : Reading X). r >>= (λ x. next x.0 x.1)) (codec.again f.item f.more f.is) ∙ a.refused
            ∙ moved Y (length f.more - f.offset) (length bytes - place) w (omega (arith, long, f.place_is));
      }

abbrev pub pure : {Y : Type 0} → Y → Reader Y
pure y bytes = Ok (y, bytes)

pub made_fail : (X Y : Type 0) (make : X → Y) (read : Reader X) (Where : Failure) → FailsAs X read Where → FailsAs Y (made make read) Where
made_fail X Y make read Where first = record { told = told; again = again } where
  told : (bytes : List ℕ) (e : ℕ × WireWhy) → IsBytes bytes → made make read bytes ≡ Err e → Told Where bytes e
  told bytes e fits h = by (failed (read bytes) (λ x. pure (make x.0) x.1) e h)
    where
      by : Failed (read bytes) (λ x. pure (make x.0) x.1) e → Told Where bytes e
      by (at_first k) = first.told bytes e fits k
      by (at_next x k l) = absurd cc

  again : (bytes : List ℕ) (place : ℕ) (w : WireWhy) → Where bytes place w → Fails (made make read) bytes place w
  again bytes place w f = let a = first.again bytes place w f in record { within = a.within; refused = ap (λ (r : Reading X). r >>= (λ x. pure (make x.0) x.1)) a.refused }

pub both_fail : (X Y : Type 0) (Has : X → Type 0) (spell : X → List ℕ) (First : Failure) (Next : X → Failure) (read : Reader X) (next : X → Reader Y)
    → IsCodec X Has spell read → FailsAs X read First → ((x : X) → Has x → FailsAs Y (next x) (Next x)) → FailsAs (X × Y) (both_at read next) (EitherFails First (FailsBehind Has spell Next))
both_fail X Y Has spell First Next read next codec first second =
    counted_fail X (X × Y) Has spell First Next read (λ x. made (λ y. (x, y)) (next x)) codec first (λ x h. made_fail Y (X × Y) (λ y. (x, y)) (next x) (Next x) (second x h))

test_failed : {X E : Type 0} (b : Bool) (x : X) (d e : E) → cond b (Ok x) (Err d) ≡ Err e → (b ≡ false) × (d ≡ e)
test_failed true x d e h = absurd cc
test_failed false x d e h = (refl, cc)

pub tested_fail : (X : Type 0) (Has : X → Type 0) (spell : X → List ℕ) (Where : Failure) (read : Reader X) (test : X → Bool) (for : WireWhy)
    → IsCodec X Has spell read → FailsAs X read Where → FailsAs X (tested read test for) (EitherFails Where (IsRefused Has spell (λ x. test x ≡ true) for))
tested_fail X Has spell Where read test for codec first = record { told = told; again = again } where
  told : (bytes : List ℕ) (e : ℕ × WireWhy) → IsBytes bytes → tested read test for bytes ≡ Err e → Told (EitherFails Where (IsRefused Has spell (λ x. test x ≡ true) for)) bytes e
  told bytes e fits h = by (failed (read bytes) (if_passes test (length bytes, for)) e h)
    where
      by : Failed (read bytes) (if_passes test (length bytes, for)) e → Told (EitherFails Where (IsRefused Has spell (λ x. test x ≡ true) for)) bytes e
      by (at_first k) = let t = first.told bytes e fits k in record { few = t.few; fails = inl t.fails }
      by (at_next x k l) =
          let s = codec.took bytes x fits k in
          let t = test_failed (test x.0) x (length bytes, for) e l in
          subst (Told (EitherFails Where (IsRefused Has spell (λ x. test x ≡ true) for)) bytes) t.1
          (record { few = omega arith; fails = inr (record { item = x.0; is = s.1; more = x.1; parts = s.0.parts; may_not = both_ways (test x.0) t.0; at_front = omega arith; cause = refl }) })

  again : (bytes : List ℕ) (place : ℕ) (w : WireWhy) → EitherFails Where (IsRefused Has spell (λ x. test x ≡ true) for) bytes place w → Fails (tested read test for) bytes place w
  again bytes place w (inl f) = let a = first.again bytes place w f in record { within = a.within; refused = ap (λ (r : Reading X). r >>= if_passes test (length bytes, for)) a.refused }
  again bytes place w (inr f) = record {
    within = omega (arith, f.at_front);
    refused =
        ap (λ (r : Reading X). r >>= if_passes test (length bytes, for)) (ap read f.parts ∙ codec.again f.item f.more f.is)
        ∙ ap (λ (b : Bool). cond b (pure f.item f.more) (error X (length bytes) for)) (false_from_ne_true (test f.item) f.may_not)
        ∙ moved X (length bytes) (length bytes - place) for (omega (arith, f.at_front)) ∙ ap (λ (v : WireWhy). error X (length bytes - place) v) (sym f.cause);
  }

-- ---- lists

-- what is known of items, behind them
abbrev pub after : {S X : Type 0} → (S → X → S) → S → List X → S
after next s [] = s
after next s (x ∷ xs) = after next (next s x) xs

-- the next of so many items
abbrev pub FailsNext : (S X : Type 0) → (S → X → Type 0) → (X → List ℕ) → (S → X → S) → (S → Failure) → ℕ → S → Failure
FailsNext S X Has spell next Where n s = FailsBehind (λ xs. (length xs < n) × AllHave S X Has next s xs) (spell_all X spell) (λ xs. Where (after next s xs))

module _ (S X : Type 0) (Has : S → X → Type 0) (spell : X → List ℕ) (Where : S → Failure) (read : S → Reader X) (next : S → X → S) (codec : (s : S) → IsCodec X (Has s) spell (read s)) (fails : (s : S) → FailsAs X (read s) (Where s)) where
  abbrev Next : ℕ → S → Failure
  Next = FailsNext S X Has spell next Where

  abbrev others : ℕ → S → X × List ℕ → Reading (List X)
  others n s x = made (λ xs. x.0 ∷ xs) (list_at read next n (next s x.0)) x.1

  head_told : (n : ℕ) (s : S) (bytes : List ℕ) (e : ℕ × WireWhy) → Told (Where s) bytes e → Told (Next (suc n) s) bytes e
  head_told n s bytes e t = record { few = t.few; fails = record { item = []; is = (omega arith, tt); more = bytes; parts = refl; offset = length bytes - e.0; fails = t.fails; place_is = omega arith } }

  tail_told : (n : ℕ) (s : S) (bytes : List ℕ) (e : ℕ × WireWhy) (x : X × List ℕ) → bytes ≡ spell x.0 ++ x.1 → Has s x.0 → Told (Next n (next s x.0)) x.1 e → Told (Next (suc n) s) bytes e
  tail_told n s bytes e x parts has t =
      let long = behind bytes (spell x.0) x.1 parts in
      let inner = behind x.1 (spell_all X spell t.fails.item) t.fails.more t.fails.parts in
      record {
        few = omega (arith, long, t.few);
        fails = record {
          item = x.0 ∷ t.fails.item;
          is = (omega (arith, t.fails.is.0), (has, t.fails.is.1));
          more = t.fails.more;
          parts = parts ∙ ap (λ (b : List ℕ). spell x.0 ++ b) t.fails.parts ∙ sym (append_assoc (spell x.0) (spell_all X spell t.fails.item) t.fails.more);
          offset = t.fails.offset;
          fails = t.fails.fails;
          place_is = omega (arith, long, inner, t.few, t.fails.place_is, length-append (spell x.0) (spell_all X spell t.fails.item));
        };
      }

  list_told : (n : ℕ) (s : S) (bytes : List ℕ) (e : ℕ × WireWhy) → IsBytes bytes → list_at read next n s bytes ≡ Err e → Told (Next n s) bytes e
  unfolding list_at
  list_told zero s bytes e fits h = absurd cc
  list_told (suc n) s bytes e fits h = elim (failed (read s bytes) (others n s) e h) [
    | at_first k ↦ head_told n s bytes e ((fails s).told bytes e fits k)
    | at_next x k l ↦
        let t = (codec s).took bytes x fits k in
        elim (failed (list_at read next n (next s x.0) x.1) (λ xs. pure (x.0 ∷ xs.0) xs.1) e l) [
          | at_first m ↦ tail_told n s bytes e x t.0.parts t.1 (list_told n (next s x.0) x.1 e t.0.behind m)
          | at_next xs m o ↦ absurd cc
        ]
  ]

  list_again : (n : ℕ) (s : S) (xs : List X) (more : List ℕ) (offset : ℕ) (w : WireWhy) → length xs < n → AllHave S X Has next s xs → Where (after next s xs) more offset w → list_at read next n s (spell_all X spell xs ++ more) ≡ Err (length more - offset, w)
  unfolding list_at
  list_again zero s xs more offset w few has f = absurd (omega (arith, few))
  list_again (suc n) s [] more offset w few has f = ap (λ (r : Reading X). r >>= others n s) ((fails s).again more offset w f).refused
  list_again (suc n) s (x ∷ xs) more offset w few has f =
      ap (λ (b : List ℕ). list_at read next (suc n) s b) (append_assoc (spell x) (spell_all X spell xs) more)
      ∙ ap (λ (r : Reading X). r >>= others n s) ((codec s).again x (spell_all X spell xs ++ more) has.0)
      ∙ ap (λ (r : Reading (List X)). r >>= (λ ys. pure (x ∷ ys.0) ys.1)) (list_again n (next s x) xs more offset w (omega (arith, few)) has.1 f)

  list_refused : (n : ℕ) (s : S) (bytes : List ℕ) (place : ℕ) (w : WireWhy) → Next n s bytes place w → Fails (list_at read next n s) bytes place w
  list_refused n s bytes place w f =
      let long = behind bytes (spell_all X spell f.item) f.more f.parts in
      let last = (fails (after next s f.item)).again f.more f.offset w f.fails in
      record {
        within = omega (arith, long, last.within, f.place_is);
        refused =
            ap (list_at read next n s) f.parts ∙ list_again n s f.item f.more f.offset w f.is.0 f.is.1 f.fails
            ∙ moved (List X) (length f.more - f.offset) (length bytes - place) w (omega (arith, long, f.place_is));
      }

  pub list_fail : (n : ℕ) (s : S) → FailsAs (List X) (list_at read next n s) (FailsNext S X Has spell next Where n s)
  list_fail n s = record { told = list_told n s; again = list_refused n s }

-- ---- the same said otherwise

abbrev pub Implies : Failure → Failure → Type 0
Implies P Q = (bytes : List ℕ) (place : ℕ) (w : WireWhy) → P bytes place w → Q bytes place w

pub fail_as : (X : Type 0) (read : Reader X) (P Q : Failure) → FailsAs X read P → Implies P Q → Implies Q P → FailsAs X read Q
fail_as X read P Q first there back = record {
  told = λ bytes e fits h. let t = first.told bytes e fits h in record { few = t.few; fails = there bytes (length bytes - e.0) e.1 t.fails };
  again = λ bytes place w f. first.again bytes place w (back bytes place w f);
}

pub either_as : (P P' Q Q' : Failure) → Implies P P' → Implies Q Q' → Implies (EitherFails P Q) (EitherFails P' Q')
either_as P P' Q Q' p q bytes place w (inl f) = inl (p bytes place w f)
either_as P P' Q Q' p q bytes place w (inr f) = inr (q bytes place w f)

pub refused_as : (X : Type 0) (Is Is' : X → Type 0) (spell : X → List ℕ) (May May' : X → Type 0) (for : WireWhy) → ((x : X) → Is x → Is' x) → ((x : X) → Is x → May' x → May x) → Implies (IsRefused Is spell May for) (IsRefused Is' spell May' for)
refused_as X Is Is' spell May May' for is may bytes place w f = record { item = f.item; is = is f.item f.is; more = f.more; parts = f.parts; may_not = λ m. f.may_not (may f.item f.is m); at_front = f.at_front; cause = f.cause }

pub behind_as : (X : Type 0) (Is Is' : X → Type 0) (spell : X → List ℕ) (Next Next' : X → Failure) → ((x : X) → Is x → Is' x) → ((x : X) → Is x → Implies (Next x) (Next' x)) → Implies (FailsBehind Is spell Next) (FailsBehind Is' spell Next')
behind_as X Is Is' spell Next Next' is next bytes place w f = record {
  item = f.item;
  is = is f.item f.is;
  more = f.more;
  parts = f.parts;
  offset = f.offset;
  fails = next f.item f.is f.more f.offset w f.fails;
  place_is = f.place_is;
}

-- spelled otherwise
pub spelled_as : (X : Type 0) (Is : X → Type 0) (spell told : X → List ℕ) (Next : X → Failure) → ((x : X) → Is x → spell x ≡ told x) → Implies (FailsBehind Is spell Next) (FailsBehind Is told Next)
spelled_as X Is spell told Next same bytes place w f = record {
  item = f.item;
  is = f.is;
  more = f.more;
  parts = f.parts ∙ ap (λ (t : List ℕ). t ++ f.more) (same f.item f.is);
  offset = f.offset;
  fails = f.fails;
  place_is = f.place_is ∙ ap (λ (t : List ℕ). length t + f.offset) (same f.item f.is);
}

pub as_it_is : (P : Failure) → Implies P P
as_it_is P bytes place w f = f
