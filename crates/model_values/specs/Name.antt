-- The shape of names.
use Rattle.std.specs.Prelude.{ℕ, Bool, ◌&&◌, ◌||◌, ◌==◌, List, length, nat_le, nat_lt, slice_index}
use Rattle.std.specs.List.{list_all}

-- a small letter of ASCII
abbrev pub is_small_letter : ℕ → Bool
is_small_letter b = nat_le 97 b && nat_le b 122

-- a digit
abbrev pub is_digit : ℕ → Bool
is_digit b = nat_le 48 b && nat_le b 57

-- what may stand in a name behind its first letter
abbrev pub is_name_byte : ℕ → Bool
is_name_byte b = is_small_letter b || is_digit b || b == 95

-- 1 to 32 characters: first a small letter, then small letters, digits and `_`
abbrev pub is_name : List ℕ → Bool
is_name t = nat_lt 0 (length t) && nat_le (length t) 32 && is_small_letter (slice_index t 0) && list_all is_name_byte t
