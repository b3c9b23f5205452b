-- The tree of JSON (RFC 8259) that bytes are, and what stands at its places.
use Rattle.std.specs.Prelude.{ℕ, List, [], ◌∷◌, length, Bool, false, if◌then◌else◌, ◌==◌, Option, Some, None, option_and_then}
use Rattle.std.specs.Str.{is_utf8, bytes_eq}
use Rattle.serde_json.specs.Data.{Data, Num, Items, no_items, item}
use Rattle.serde_json.specs.Find.{at, as_str, as_number, as_array}
use Rattle.serde_json.specs.Read.{read}

-- the tree of the bytes, where they are UTF-8 and a text of JSON
unfoldable pub json_of : List ℕ → Option Data
json_of bytes = if is_utf8 bytes then read bytes else None

-- the parts of an array, in order
abbrev pub list_of : Items → List Data
list_of no_items = []
list_of (item d ds) = d ∷ list_of ds

-- the text at a place of an array
abbrev pub text_at : ℕ → Data → Option (List ℕ)
text_at i d = option_and_then as_str (at i d)

-- the number at a place of an array
abbrev pub number_at : ℕ → Data → Option Num
number_at i d = option_and_then as_number (at i d)

abbrev pub is_text : List ℕ → Option (List ℕ) → Bool
is_text word None = false
is_text word (Some t) = bytes_eq t word

-- the word stands at a place of an array
unfoldable pub is_word_at : ℕ → List ℕ → Data → Bool
is_word_at i word d = is_text word (text_at i d)

abbrev pub are_many : ℕ → Option Items → Bool
are_many n None = false
are_many n (Some ds) = length (list_of ds) == n

-- an array of n parts
unfoldable pub has_items : ℕ → Data → Bool
has_items n d = are_many n (as_array d)

-- both, put together
abbrev pub two : {A B C : Type 0} → (A → B → C) → Option A → Option B → Option C
two f None b = None
two f (Some a) None = None
two f (Some a) (Some b) = Some (f a b)
