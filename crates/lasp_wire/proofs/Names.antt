-- What is of a name's shape is UTF-8.
use Rattle.std.proofs.Common.{◌≡◌, ℕ, zero, suc, ◌<◌, true, List, [], ◌∷◌, arith}
use Rattle.std.specs.List.{list_all}
use Rattle.std.specs.Str.{is_utf8, IsAscii}
use Rattle.std.proofs.lemmas.Bool.{and_parts}
use Rattle.std.proofs.lemmas.Str.{IsUtf8-from_ascii, is_utf8-from_IsUtf8}
use Rattle.model_values.specs.Name.{is_name_byte, is_name}

small : (b : ℕ) → is_name_byte b ≡ true → b < 128
small b h = grind arith

pub ascii : (t : List ℕ) → list_all is_name_byte t ≡ true → IsAscii t
ascii [] h i = omega arith
ascii (b ∷ t) h zero = small b (and_parts _ _ h).0
ascii (b ∷ t) h (suc i) = ascii t (and_parts _ _ h).1 i

pub names_are_utf8 : (t : List ℕ) → is_name t ≡ true → is_utf8 t ≡ true
names_are_utf8 t h =
    let a = and_parts _ _ h in
    is_utf8-from_IsUtf8 t (IsUtf8-from_ascii t (ascii t a.1))
