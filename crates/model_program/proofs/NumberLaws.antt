-- Numbers between bounds, by their digits.
use Rattle.std.proofs.Common.{refl, sym, ap, ◌∙◌, arith}
use Rattle.std.specs.Prelude.{◌≡◌, ℕ, ◌<◌, ◌≤◌, ◌^◌, ◌&&◌, List, Bool, true, false, nat_le, Option, Some, None, if◌then◌else◌, Result, Ok, Err}
use Rattle.std.specs.Fmt.{decimal}
use Rattle.std.specs.Str.{bytes_eq}
use Rattle.std.specs.Str.Parse.{digits_value, ParsesUnsigned}
use Rattle.std.proofs.lemmas.Bool.{leb-true, le-leb}
use Rattle.std.proofs.lemmas.Fmt.{decimal_is_IsNumeral, parse-decimal}
use Rattle.std.proofs.lemmas.Slice.Eq.{bytes_eq-Decides}
use Rattle.model_program.specs.Program.{spelled_in, number_in}

-- what the three tests come to
abbrev tested : ℕ → Bool → Bool → Bool → Option ℕ
tested n a b c = if a && b && c then Some n else None

bytes-same : (word : List ℕ) → bytes_eq word word ≡ true
bytes-same word = (bytes_eq-Decides word word).1 refl

-- a number's digits spell it
pub number-decimal : (least most n : ℕ) → n < 2 ^ 64 → least ≤ n → n ≤ most → number_in (decimal n) least most ≡ Some n
number-decimal least most n small low high =
    ap (spelled_in (decimal n) least most) (decimal_is_IsNumeral n small).1
    ∙ ap (λ (a : Bool). tested n a (nat_le n most) (bytes_eq (decimal n) (decimal n))) (le-leb least n low)
    ∙ ap (λ (b : Bool). tested n true b (bytes_eq (decimal n) (decimal n))) (le-leb n most high)
    ∙ ap (λ (c : Bool). tested n true true c) (bytes-same (decimal n))

-- the word is the number's digits, and the number is from the bounds
pub record IsSpelled (word : List ℕ) (least most n : ℕ) : Type 0 where
  pub low : least ≤ n
  pub high : n ≤ most
  pub is : word ≡ decimal n

spelled-tested : (word : List ℕ) (least most m n : ℕ) (a b c : Bool) → nat_le least m ≡ a → nat_le m most ≡ b → bytes_eq word (decimal m) ≡ c → tested m a b c ≡ Some n → IsSpelled word least most n
spelled-tested word least most m n true true true low high is e =
    let same : m ≡ n = cc in
    record {
      low = omega (arith, leb-true least m low, same);
      high = omega (arith, leb-true m most high, same);
      is = (bytes_eq-Decides word (decimal m)).0 is ∙ ap decimal same;
    }
spelled-tested word least most m n true true false low high is e = absurd cc
spelled-tested word least most m n true false c low high is e = absurd cc
spelled-tested word least most m n false b c low high is e = absurd cc

pub number-spelled : (word : List ℕ) (least most n : ℕ) → number_in word least most ≡ Some n → IsSpelled word least most n
number-spelled word least most n e = spelled-tested word least most (digits_value 10 word) n _ _ _ refl refl refl e

-- the number is the one that was read, if any is
pub number-read : {E : Type 0} (word : List ℕ) (least most n : ℕ) (r : Result ℕ E) → most < 2 ^ 32 → ParsesUnsigned 32 10 word r → number_in word least most ≡ Some n → r ≡ Ok n
number-read word least most n r few parses e =
    let found = number-spelled word least most n e in
    parse-decimal 32 n word r (omega (arith, found.high, few)) (omega (arith, found.high, few)) found.is parses

option-none : (o : Option ℕ) → ((n : ℕ) → o ≡ Some n → ⊥) → o ≡ None
option-none (Some n) h = absurd (h n refl)
option-none None h = refl

-- nothing is read
pub number-unread : {E : Type 0} (word : List ℕ) (least most : ℕ) (e : E) (r : Result ℕ E) → most < 2 ^ 32 → ParsesUnsigned 32 10 word r → r ≡ Err e → number_in word least most ≡ None
number-unread word least most e r few parses is =
    option-none (number_in word least most) (λ n found. let read : r ≡ Ok n = number-read word least most n r few parses found in absurd cc)

spelled-some : (word : List ℕ) (least most n : ℕ) → IsSpelled word least most n → spelled_in word least most n ≡ Some n
spelled-some word least most n h =
    ap (λ (a : Bool). tested n a (nat_le n most) (bytes_eq word (decimal n))) (le-leb least n h.low)
    ∙ ap (λ (b : Bool). tested n true b (bytes_eq word (decimal n))) (le-leb n most h.high)
    ∙ ap (λ (c : Bool). tested n true true c) ((bytes_eq-Decides word (decimal n)).1 h.is)

-- where a number is read, it is the one, or there is none
pub number-parsed : {E : Type 0} (word : List ℕ) (least most m : ℕ) (r : Result ℕ E) → most < 2 ^ 32 → ParsesUnsigned 32 10 word r → r ≡ Ok m → spelled_in word least most m ≡ number_in word least most
number-parsed word least most m r few parses is = choose (spelled_in word least most m) refl where
  -- a number that is spelled is the one that was read
  read-same : (n : ℕ) → number_in word least most ≡ Some n → IsSpelled word least most m
  read-same n found =
      let read : r ≡ Ok n = number-read word least most n r few parses found in
      let same : n ≡ m = cc in
      let spelled = number-spelled word least most n found in
      record { low = omega (arith, spelled.low, same); high = omega (arith, spelled.high, same); is = spelled.is ∙ ap decimal same }

  choose : (o : Option ℕ) → spelled_in word least most m ≡ o → o ≡ number_in word least most
  choose (Some n) e =
      let spelled : IsSpelled word least most n = spelled-tested word least most m n _ _ _ refl refl refl e in
      sym (ap (λ (w : List ℕ). number_in w least most) spelled.is ∙ number-decimal least most n (omega (arith, spelled.high, few)) spelled.low spelled.high)
  choose None e = sym (option-none (number_in word least most) (λ n found. let some : spelled_in word least most m ≡ Some m = spelled-some word least most m (read-same n found) in absurd cc))

pub ruleset numbers = (number-unread, number-parsed)
