-- The text of a value, as its bytes: compact JSON.
use Rattle.std.specs.Prelude.{ℕ, ◌+◌, ◌/◌, ◌%◌, List, [], ◌∷◌, ◌++◌, flat_map, if◌then◌else◌, ◌==◌, nat_lt}
use Rattle.std.specs.Fmt.{signed_decimal}
use Rattle.model_values.specs.Value.{Val, int, text, pair}

-- A lower hexadecimal digit.
abbrev pub hex_digit : ℕ → ℕ
hex_digit n = if nat_lt n 10 then 48 + n else 87 + n

-- One byte of a text as it is printed: a quote and a backslash after a backslash; backspace, tab, line feed, form feed and return by their letters; other bytes below 32 by number; all others as they are.
unfoldable pub escaped : ℕ → List ℕ
escaped b =
    if b == 34 then 92 ∷ 34 ∷ [] else
    if b == 92 then 92 ∷ 92 ∷ [] else
    if b == 8 then 92 ∷ 98 ∷ [] else
    if b == 9 then 92 ∷ 116 ∷ [] else
    if b == 10 then 92 ∷ 110 ∷ [] else
    if b == 12 then 92 ∷ 102 ∷ [] else
    if b == 13 then 92 ∷ 114 ∷ [] else
    if nat_lt b 32 then 92 ∷ 117 ∷ 48 ∷ 48 ∷ hex_digit (b / 16) ∷ hex_digit (b % 16) ∷ [] else
    b ∷ []

-- A text between quotes.
abbrev pub quoted : List ℕ → List ℕ
quoted t = 34 ∷ (flat_map escaped t ++ 34 ∷ [])

-- A value: a number in decimal digits, a text between quotes, a pair as an array of two, with no spaces.
abbrev pub shown : Val → List ℕ
shown (int n) = signed_decimal n
shown (text t) = quoted t
shown (pair a b) = 91 ∷ (shown a ++ 44 ∷ (shown b ++ 93 ∷ []))

-- Values between commas.
abbrev pub shown_after : List Val → List ℕ
shown_after [] = 93 ∷ []
shown_after (v ∷ vs) = 44 ∷ (shown v ++ shown_after vs)

-- A list of values as an array, with no spaces.
abbrev pub shown_values : List Val → List ℕ
shown_values [] = 91 ∷ 93 ∷ []
shown_values (v ∷ vs) = 91 ∷ (shown v ++ shown_after vs)
