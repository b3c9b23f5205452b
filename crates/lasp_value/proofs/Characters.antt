-- How the bytes of a character are printed: one below 128 is its own byte, and the bytes of any other are printed as they are.
use Rattle.std.proofs.Common.{◌≡◌, ℕ, suc, ◌<◌, ◌≤◌, List, [], ◌∷◌, ◌++◌, length, get_or, refl, ap, ◌∙◌, sym, append_assoc, arith}
use Rattle.std.proofs.lemmas.Bool.Decides.{nat_tests}
use Rattle.std.proofs.lemmas.List.{append-nil}
use Rattle.std.proofs.lemmas.Str.{inside_one, encode_ascii, encodes-append}
use Rattle.std.proofs.lemmas.List.Concat.{flat_map-append}
use Rattle.std.specs.Str.{encode_utf8_all}
use Rattle.std.specs.Char.{encode_utf8}
use Rattle.std.specs.List.{flat_map}
use Rattle.model_values.specs.Text.{escaped}

-- A byte from 128 on is printed as it is.
escaped-large : (b : ℕ) → 128 ≤ b → escaped b ≡ b ∷ []
unfolding escaped
escaped-large b h = grind (arith, nat_tests)

flat_map-large : (xs : List ℕ) → ((k : ℕ) → k < length xs → 128 ≤ get_or xs k 0) → flat_map escaped xs ≡ xs
flat_map-large [] h = refl
flat_map-large (x ∷ xs) h =
    let first = escaped-large x (h 0 (omega arith)) in
    let rest = flat_map-large xs (λ k l. h (suc k) (omega arith)) in
    cc

large-unless : (b c : ℕ) → 128 ≤ c → (b < 128 → c ≡ b) → 128 ≤ b
large-unless b c h f = grind arith

bytes-large : (c k : ℕ) → 128 ≤ c → k < length (encode_utf8 c) → 128 ≤ get_or (encode_utf8 c) k 0
bytes-large c k h l = large-unless (get_or (encode_utf8 c) k 0) c h (inside_one c [] (encode_utf8 c) k (sym (append-nil (encode_utf8 c))) l)

pub high : (c : ℕ) → 128 ≤ c → flat_map escaped (encode_utf8 c) ≡ encode_utf8 c
high c h = flat_map-large (encode_utf8 c) (λ k l. bytes-large c k h l)

pub low : (c : ℕ) → c < 128 → flat_map escaped (encode_utf8 c) ≡ escaped c
low c h = rw (encode_ascii c h) (append-nil (escaped c))

pub ruleset characters = (high, low)

-- Where the characters so far were printed and then one more, the characters with it were printed.
pub printed-more : (out before after cs : List ℕ) (c : ℕ) → before ≡ out ++ (34 ∷ flat_map escaped (encode_utf8_all cs)) → after ≡ before ++ flat_map escaped (encode_utf8 c)
    → after ≡ out ++ (34 ∷ flat_map escaped (encode_utf8_all (cs ++ c ∷ [])))
printed-more out before after cs c so_far more =
    rw (encodes-append cs (c ∷ []), append-nil (encode_utf8 c), flat_map-append escaped (encode_utf8_all cs) (encode_utf8 c))
    (more ∙ ap (λ (b : List ℕ). b ++ flat_map escaped (encode_utf8 c)) so_far ∙ append_assoc out (34 ∷ flat_map escaped (encode_utf8_all cs)) (flat_map escaped (encode_utf8 c)))
