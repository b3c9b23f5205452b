-- The value that a tree of JSON stands for, or why it stands for none.
use Rattle.std.specs.Prelude.{◌&&◌, Bool, ◌∷◌, ◌++◌, List, [], false, true, is_some, if◌then◌else◌, nat_le, Result, Ok, Err, ok_or, option_map}
use Rattle.serde_json.specs.Data.{Data, null, boolean, number, string, array, object, Items, no_items, item}
use Rattle.serde_json.specs.Find.{as_i64}
use Rattle.model_values.specs.Value.{Val, int, text, pair}
use Rattle.model_values.specs.Size.{leaves, text_bytes}
use Rattle.model_values.specs.declared.value_why.ValueWhy.{ValueWhy}
use Rattle.model_values.specs.declared.value_why.ValueWhy.TheVariants as why

-- two values as a pair; the first that is none tells why
abbrev pub paired : Result Val ValueWhy → Result Val ValueWhy → Result Val ValueWhy
paired (Ok a) (Ok b) = Ok (pair a b)
paired (Ok a) (Err e) = Err e
paired (Err e) second = Err e

-- a number that fits 64 bits with a sign, a text, or two values as an array; of any size
abbrev mutual
  pub written_value : Data → Result Val ValueWhy
  written_value null = Err why.NotAValue
  written_value (boolean b) = Err why.NotAValue
  written_value (number n) = ok_or (option_map int (as_i64 n)) why.NumberRefused
  written_value (string s) = Ok (text s)
  written_value (array ds) = written_pair ds
  written_value (object ms) = Err why.NotAValue

  pub written_pair : Items → Result Val ValueWhy
  written_pair no_items = Err why.NotAValue
  written_pair (item a no_items) = Err why.NotAValue
  written_pair (item a (item b no_items)) = paired (written_value a) (written_value b)
  written_pair (item a (item b (item c ds))) = Err why.NotAValue

-- what a set may be handed from outside: at most 8 numbers and texts, and 256 bytes of text in all
abbrev pub is_source_value : Val → Bool
is_source_value v = nat_le (leaves v) 8 && nat_le (text_bytes v) 256

-- a value that may be handed in
abbrev pub if_source_value : Result Val ValueWhy → Result Val ValueWhy
if_source_value (Ok v) = if is_source_value v then Ok v else Err why.TooBig
if_source_value (Err e) = Err e

-- the value that a tree stands for, where it may be handed in
unfoldable pub read_value : Data → Result Val ValueWhy
read_value d = if_source_value (written_value d)

-- an array of two parts
abbrev pub are_two : Items → Bool
are_two no_items = false
are_two (item a no_items) = false
are_two (item a (item b no_items)) = true
are_two (item a (item b (item c ds))) = false

-- the parts that stand for no value, by what is wrong with each: an array before its parts, these from left to right
abbrev mutual
  pub offences : Data → List ValueWhy
  offences null = why.NotAValue ∷ []
  offences (boolean b) = why.NotAValue ∷ []
  offences (number n) = if is_some (as_i64 n) then [] else why.NumberRefused ∷ []
  offences (string s) = []
  offences (array ds) = if are_two ds then offences_in ds else why.NotAValue ∷ offences_in ds
  offences (object ms) = why.NotAValue ∷ []

  pub offences_in : Items → List ValueWhy
  offences_in no_items = []
  offences_in (item d ds) = offences d ++ offences_in ds
