-- What white space and a text without escapes are to the lexer.
use Rattle.std.proofs.Common.{◌≡◌, ◌∙◌, refl, sym, ap, ap₂, ℕ, ◌<◌, ◌≤◌, List, [], ◌∷◌, ◌++◌, length, get_or, take, Bool, true, false, Some, inl, inr, arith, get_or-take}
use Rattle.std.specs.Prelude.{◌⊎◌, ◌||◌, ◌==◌}
use Rattle.std.proofs.lemmas.Bool.{eqb-true}
use Rattle.std.proofs.lemmas.List.{length-take-le}
use Rattle.json.specs.Lex.{token, between, in_string, lex, string_token}
use Rattle.json.specs.Token.{string}
use Rattle.json.specs.Text.{content, plain}
use Rattle.json.specs.Word.{is_space}
use Rattle.json.specs.Run.{is_plain}
use Rattle.json.specs.Print.{escape}
use Rattle.json.specs.Written.{PlainBetween}
use Rattle.json.proofs.Printed.Strings.{content-escape, lex-escape}
use Rattle.json.proofs.Printed.Plain.{escape_on_plain}

either_true : (a b : Bool) → (a || b) ≡ true → (a ≡ true) ⊎ (b ≡ true)
either_true true b e = inl refl
either_true false b e = inr e

pub lex-space : (x : ℕ) (rest : List ℕ) → is_space x ≡ true → lex between (x ∷ rest) ≡ lex between rest
unfolding lex
lex-space x rest is = one_of_four (either_true ((x == 32) || (x == 9) || (x == 10)) (x == 13) is) where
  at : (c : ℕ) → lex between (c ∷ rest) ≡ lex between rest → (x == c) ≡ true → lex between (x ∷ rest) ≡ lex between rest
  at c passed e = rw (eqb-true x c e) passed

  one_of_two : ((x == 32) ≡ true) ⊎ ((x == 9) ≡ true) → lex between (x ∷ rest) ≡ lex between rest
  one_of_two (inl e) = at 32 refl e
  one_of_two (inr e) = at 9 refl e

  one_of_three : (((x == 32) || (x == 9)) ≡ true) ⊎ ((x == 10) ≡ true) → lex between (x ∷ rest) ≡ lex between rest
  one_of_three (inl e) = one_of_two (either_true (x == 32) (x == 9) e)
  one_of_three (inr e) = at 10 refl e

  one_of_four : (((x == 32) || (x == 9) || (x == 10)) ≡ true) ⊎ ((x == 13) ≡ true) → lex between (x ∷ rest) ≡ lex between rest
  one_of_four (inl e) = one_of_three (either_true ((x == 32) || (x == 9)) (x == 10) e)
  one_of_four (inr e) = at 13 refl e

-- a text is its own spelling where each of its bytes stands for itself
pub lex-text : (s rest : List ℕ) → PlainBetween s 0 (length s) → lex between (34 ∷ (s ++ 34 ∷ rest)) ≡ token (string s) ∷ lex between rest
unfolding lex
lex-text s rest plain_all =
    let same : s ≡ escape s = sym (escape_on_plain true s plain_all) in
    let inside : content plain (s ++ 34 ∷ rest) ≡ Some s = ap (λ l. content plain (l ++ 34 ∷ rest)) same ∙ content-escape s rest in
    let behind : lex in_string (s ++ 34 ∷ rest) ≡ lex between rest = ap (λ l. lex in_string (l ++ 34 ∷ rest)) same ∙ lex-escape s rest in
    ap₂ (λ o ls. token (string_token o) ∷ ls) inside behind

pub lex-quoted : (rest inside text end behind : List ℕ) (first last : ℕ) → rest ≡ first ∷ inside → first ≡ 34 → inside ≡ text ++ end → end ≡ last ∷ behind → last ≡ 34 → PlainBetween text 0 (length text)
    → lex between rest ≡ token (string text) ∷ lex between behind
lex-quoted rest inside text end behind first last opens quote parts closes quote_again plain_all = rw (opens, quote, parts, closes, quote_again) (lex-text text behind plain_all)

pub lex-over : (rest : List ℕ) → (length rest == 0) ≡ true → lex between rest ≡ []
unfolding lex
lex-over [] over = refl
lex-over (x ∷ rest) over = absurd (omega (arith, eqb-true (length (x ∷ rest)) 0 over))

-- the front of bytes that are plain so far
pub plain-take : (bytes : List ℕ) (n : ℕ) → n ≤ length bytes → ((i : ℕ) → i < n → is_plain (get_or bytes i 0) ≡ true) → PlainBetween (take n bytes) 0 (length (take n bytes))
plain-take bytes n within all k from to = let short : k < n = omega (arith, length-take-le n bytes within) in rw (get_or-take n bytes k 0 short) (all k short)
