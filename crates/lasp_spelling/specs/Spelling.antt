-- What stands in front of a text, and which trees the usual spellings are of.
use Rattle.std.specs.Prelude.{◌≡◌, ⊤, ℕ, ◌<◌, ◌≤◌, length, Bool, true, false, List, [], ◌∷◌, ◌++◌, if◌then◌else◌, Some}
use Rattle.json.specs.Token as plain
use Rattle.json.specs.Lex.{Lexeme, token, comma, between, lex}
use Rattle.serde_json.specs.Data.{Num, Data, null, boolean, number, string, array, object, Items, no_items, item, depth, items_depth}
use Rattle.serde_json.specs.Read.{number_of}
use Rattle.serde_json.specs.Written.{number_text}
use Rattle.serde_json.specs.View.{items_of}

-- a text has these lexemes in front of another
abbrev pub Begins : List ℕ → List Lexeme → List ℕ → Type 0
Begins old lexemes new = lex between old ≡ lexemes ++ lex between new

-- the lexeme of an integer in decimal
abbrev pub number_lexeme : Num → Lexeme
number_lexeme n = token (plain.number (number_text n))

-- a comma, where something stands before
abbrev pub comma_if : Bool → List Lexeme
comma_if later = if later then comma ∷ [] else []

abbrev mutual
  -- the lexemes of a tree of texts, integers and arrays
  pub lexemes_of : Data → List Lexeme
  lexemes_of null = []
  lexemes_of (boolean b) = []
  lexemes_of (number n) = number_lexeme n ∷ []
  lexemes_of (string s) = token (plain.string s) ∷ []
  lexemes_of (array ds) = token plain.begin_array ∷ items_lexemes false ds
  lexemes_of (object ms) = []

  -- with the closing bracket
  pub items_lexemes : Bool → Items → List Lexeme
  items_lexemes later no_items = token plain.end_array ∷ []
  items_lexemes later (item d ds) = comma_if later ++ (lexemes_of d ++ items_lexemes true ds)

-- the number is what its decimal text says
abbrev pub IsWritten : Num → Type 0
IsWritten n = number_of (number_text n) ≡ Some n

abbrev mutual
  -- a tree of texts, integers and arrays
  pub IsPlain : Data → Type 0
  IsPlain null = ⊥
  IsPlain (boolean b) = ⊥
  IsPlain (number n) = IsWritten n
  IsPlain (string s) = ⊤
  IsPlain (array ds) = ArePlain ds
  IsPlain (object ms) = ⊥

  pub ArePlain : Items → Type 0
  ArePlain no_items = ⊤
  ArePlain (item d ds) = IsPlain d × ArePlain ds

-- a usual spelling of a tree stands in front, which nests no deeper than so
pub record Spells (nesting : ℕ) (old : List ℕ) (d : Data) (new : List ℕ) : Type 0 where
  pub lexemes : Begins old (lexemes_of d) new
  pub plain : IsPlain d
  pub nests : depth d ≤ nesting

-- the lexemes of trees, and commas between them
abbrev pub listed : Bool → List Data → List Lexeme
listed later [] = []
listed later (d ∷ ds) = comma_if later ++ (lexemes_of d ++ listed true ds)

-- an array opens, and has these parts so far, one at least
pub record Opens (nesting : ℕ) (old : List ℕ) (ds : List Data) (new : List ℕ) : Type 0 where
  pub begun : 0 < length ds
  pub lexemes : Begins old (token plain.begin_array ∷ listed false ds) new
  pub plain : ArePlain (items_of ds)
  pub nests : items_depth (items_of ds) ≤ nesting
