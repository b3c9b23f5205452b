-- Integers in decimal, as JSON reads them.
use Rattle.std.proofs.Common.{◌≡◌, ◌∙◌, refl, sym, ap, ℕ, zero, suc, neg_ℤ, w64, to_z, of_z, ◌^◌, ◌<◌, ℤ, pos, negsuc, List, [], ◌∷◌, ◌++◌, length, get_or, take, drop, true, decimal, arith}
use Rattle.std.proofs.lemmas.Int.{to_z-of_z}
use Rattle.std.specs.Fmt.{signed_decimal}
use Rattle.std.specs.Str.Parse.{AllDigits, digits_value}
use Rattle.std.proofs.lemmas.List.{take-append-drop}
use Rattle.std.proofs.lemmas.Fmt.{decimal-digits_value}
use Rattle.std.proofs.lemmas.Str.Parse.{numerals_by_value, tells_digits}
use Rattle.json.specs.Word.{ends_word}
use Rattle.json.proofs.Printed.Numbers.{lex-number}
use Rattle.json.proofs.Printed.Decimals.{IsNumber-decimal, IsNumber-signed_decimal}
use Rattle.serde_json.specs.Data.{Num, unsigned, negative}
use Rattle.serde_json.specs.Find.{of_integer}
use Rattle.serde_json.proofs.Numbers.{number_of-decimal, number_of-negative}
use Rattle.lasp_spelling.specs.Spelling.{Begins, number_lexeme, IsWritten}

-- digits that no zero leads are what is written of their number
pub decimal-front : (bytes : List ℕ) (len n : ℕ) → AllDigits 10 (take len bytes) → n ≡ digits_value 10 (take len bytes) → n < 2 ^ 63 → 0 < length (take len bytes) → (get_or (take len bytes) 0 0 ≡ 48 → length (take len bytes) ≡ 1)
    → bytes ≡ decimal n ++ drop len bytes
decimal-front bytes len n digits value small some lead =
    let fits : digits_value 10 (take len bytes) < 2 ^ 64 = omega (arith, value, small) in
    let spelled : decimal n ≡ take len bytes = ap decimal value ∙ decimal-digits_value (numerals_by_value _ tells_digits) (take len bytes) digits some lead fits in
    sym (take-append-drop len bytes) ∙ ap (λ ds. ds ++ drop len bytes) (sym spelled)

pub whole-lexeme : (rest behind : List ℕ) (n : ℕ) (v : Num) → v ≡ unsigned n → n < 2 ^ 63 → rest ≡ decimal n ++ behind → ends_word behind ≡ true → Begins rest (number_lexeme v ∷ []) behind
whole-lexeme rest behind n v is small spelled ended =
    let fits : n < 2 ^ 64 = omega arith in
    rw (is, spelled) (lex-number (decimal n) behind (IsNumber-decimal n fits) ended)

pub whole-written : (n : ℕ) (v : Num) → v ≡ unsigned n → n < 2 ^ 63 → IsWritten v
whole-written n v is small = let fits : n < 2 ^ 64 = omega arith in rw is (number_of-decimal n fits)

-- what is told by the number with its sign
below : (m : ℕ) (z : ℤ) (v : Num) → suc m < 2 ^ 63 → z ≡ neg_ℤ (pos (suc m)) → v ≡ of_integer (to_z w64 (of_z w64 z)) → v ≡ negative (negsuc m)
below m z v small signed is = is ∙ ap of_integer (ap (λ y. to_z w64 (of_z w64 y)) signed ∙ to_z-of_z w64 (negsuc m) (record { sfits = omega arith }))

pub below-lexeme : (rest digits behind : List ℕ) (n : ℕ) (z : ℤ) (v : Num) → (n ≡ 0 → ⊥) → n < 2 ^ 63 → z ≡ neg_ℤ (pos n) → v ≡ of_integer (to_z w64 (of_z w64 z)) → rest ≡ 45 ∷ digits → digits ≡ decimal n ++ behind → ends_word behind ≡ true
    → Begins rest (number_lexeme v ∷ []) behind
below-lexeme rest digits behind zero z v some small signed is opens spelled ended = absurd (some refl)
below-lexeme rest digits behind (suc m) z v some small signed is opens spelled ended =
    let fits : m < 2 ^ 63 = omega arith in
    rw (below m z v small signed is, opens, spelled) (lex-number (signed_decimal (negsuc m)) behind (IsNumber-signed_decimal (negsuc m) fits) ended)

pub below-written : (n : ℕ) (z : ℤ) (v : Num) → (n ≡ 0 → ⊥) → n < 2 ^ 63 → z ≡ neg_ℤ (pos n) → v ≡ of_integer (to_z w64 (of_z w64 z)) → IsWritten v
below-written zero z v some small signed is = absurd (some refl)
below-written (suc m) z v some small signed is = let fits : m < 2 ^ 63 = omega arith in rw (below m z v small signed is) (number_of-negative m fits)
