-- The bytes of a message. Numbers stand with their highest byte first.
use Rattle.std.specs.Prelude.{ℕ, ℤ, ◌++◌, List, [], ◌∷◌, length, flat_map, if◌then◌else◌, Bool, true, false, Option, Some, None, codes}
use Rattle.std.specs.Int.{bytes_high_first, cast_unsigned}
use Rattle.std.specs.Ordering.{eq_by_cmp}
use mir.Syntax.{w64}
use Rattle.model_values.specs.Value.{Val, int, text, pair, val_cmp}
use Rattle.model_values.specs.Token.{Tok, single, both}
use Rattle.model_values.specs.Row.{Row}
use Rattle.model_states.specs.Content.{Content}
use Rattle.model_graph.specs.Graph.{Kind, OrSet, GSet, Counter, MaxReg}
use Rattle.model_graph.specs.Message.{Sent, Message}

-- a number of k bytes
abbrev pub number : ℕ → ℕ → List ℕ
number k n = bytes_high_first k n

-- a number with a sign, of 8 bytes in two's complement
abbrev pub signed_number : ℤ → List ℕ
signed_number n = number 8 (cast_unsigned w64 n)

-- a truth value of one byte
abbrev pub truth : Bool → List ℕ
truth b = if b then 1 ∷ [] else 0 ∷ []

-- a value: a tag, and then a number, a length with that many bytes, or two values
abbrev pub spelled_value : Val → List ℕ
spelled_value (int n) = 0 ∷ signed_number n
spelled_value (text t) = 1 ∷ (number 2 (length t) ++ t)
spelled_value (pair a b) = 2 ∷ (spelled_value a ++ spelled_value b)

-- a token: the replica and the number of its update; the rows of a source have no others
abbrev pub spelled_token : Tok → List ℕ
spelled_token (single q k) = number 1 q ++ number 8 k
spelled_token (both t s) = spelled_token t ++ spelled_token s

-- the rows of one value: its tokens, each with whether it is dead
pub record Group : Type 0 where
  pub value : Val
  pub tokens : List (Tok × Bool)

-- a row before groups: it goes to the first of them where that is of its value
abbrev pub with_row : Row → List Group → List Group
with_row r [] = record { value = r.0.0; tokens = (r.0.1, r.1) ∷ [] } ∷ []
with_row r (group ∷ groups) =
    if eq_by_cmp val_cmp r.0.0 group.value then record { value = group.value; tokens = (r.0.1, r.1) ∷ group.tokens } ∷ groups
    else record { value = r.0.0; tokens = (r.0.1, r.1) ∷ [] } ∷ group ∷ groups

-- rows by their values
abbrev pub groups_of : List Row → List Group
groups_of [] = []
groups_of (r ∷ rows) = with_row r (groups_of rows)

abbrev pub spelled_group : Group → List ℕ
spelled_group group = spelled_value group.value ++ number 4 (length group.tokens) ++ flat_map (λ t. spelled_token t.0 ++ truth t.1) group.tokens

-- a set state: the number of its values, and each value with its tokens
abbrev pub spelled_rows : List Row → List ℕ
spelled_rows rows = number 4 (length (groups_of rows)) ++ flat_map spelled_group (groups_of rows)

-- a grow-only set: the number of its elements, and the elements
abbrev pub spelled_values : List Val → List ℕ
spelled_values values = number 4 (length values) ++ flat_map spelled_value values

-- a counter: the counts
abbrev pub spelled_counts : List ℕ → List ℕ
spelled_counts counts = flat_map (number 8) counts

-- a register: whether there is a number, and the number
abbrev pub spelled_top : Option ℤ → List ℕ
spelled_top None = truth false
spelled_top (Some n) = truth true ++ signed_number n

-- the kind of a source and what it holds
abbrev pub spelled_content : Kind → Content → List ℕ
spelled_content OrSet s = 1 ∷ spelled_rows s.rows
spelled_content GSet s = 2 ∷ spelled_values s.values
spelled_content Counter s = 3 ∷ spelled_counts s.counts
spelled_content MaxReg s = 4 ∷ spelled_top s.top
spelled_content _ s = []

-- a source: its name with its length, its kind and what it holds
abbrev pub spelled_source : Sent → List ℕ
spelled_source s = number 1 (length s.decl.name) ++ s.decl.name ++ spelled_content s.decl.kind s.content

-- a message: `LASP` and the version, the counts with their number, the sources with their number
unfoldable pub spelled : Message → List ℕ
spelled m = (codes "LASP" ++ 2 ∷ []) ++ number 1 (length m.counts) ++ flat_map (number 8) m.counts ++ number 1 (length m.sources) ++ flat_map spelled_source m.sources
