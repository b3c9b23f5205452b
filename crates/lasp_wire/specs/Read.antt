-- What a reader returned, beside what its definition reads.
use Rattle.std.specs.Prelude.{◌≡◌, ℕ, ◌-◌, Bool, List, length, map, slice_get, Option, Result, Ok, Err}
use Rattle.std.specs.Option.{option_map}
use Rattle.model_values.specs.Value.{Val}
use Rattle.model_values.specs.Token.{Tok, single}
use Rattle.model_values.specs.Row.{Row}
use Rattle.model_graph.specs.Spelling.{Group}
use Rattle.model_wire.specs.Message.{Before}
use Rattle.lasp_value.specs.Value.{val_of}
use Rattle.model_wire.specs.declared.wire_why.WireWhy.{WireWhy}
use Rattle.lasp_wire.specs.declared.refused.ReadError.{ReadError}
use Rattle.lasp_wire.specs.declared.refused.ReadError.TheVariants as error
use Rattle.lasp_wire.specs.declared.read.tokens.Mark as declared
use Rattle.lasp_wire.specs.declared.read.groups.Group as grouped

-- the refusal is the one of the definition; want of memory may always be
abbrev pub Fails : {Y : Type 0} → ReadError → Result Y (ℕ × WireWhy) → Type 0
Fails (error.At left why) read = read ≡ Err (left, why)
Fails error.Memory read = Unit {0}

-- what was returned, seen by view, is what is read
abbrev pub Gives : {X Y : Type 0} → (X → Y) → Result X ReadError → Result Y (ℕ × WireWhy) → Type 0
Gives view (Ok x) read = read ≡ Ok (view x)
Gives view (Err e) read = Fails e read

-- a token and whether it is dead
abbrev pub mark_of : declared.Mark → Tok × Bool
mark_of m = (single m.replica m.k, m.is_dead)

-- the last item, if there is one
abbrev pub last_of : {X : Type 0} → List X → Option X
last_of xs = slice_get xs (length xs - 1)

abbrev pub last_value_of : List Row → Option Val
last_value_of rows = option_map (λ r. r.0.0) (last_of rows)

-- what is known of the values before one
abbrev pub before_of : List Row → Before
before_of rows = (last_value_of rows, length rows)

-- a value with its tokens
abbrev pub group_of : grouped.Group → Group
group_of g = record { value = val_of g.value; tokens = map mark_of g.marks.items }
