-- Sets, sources and whole messages from bytes, in both versions: version 1 has a value in every row, version 2 has it once before its tokens.
use Rattle.std.specs.Prelude.{ℕ, ℤ, ◌+◌, ◌-◌, ◌==◌, ◌||◌, Bool, if◌then◌else◌, List, length, map, flat_map, Option, Some, None, Result, Ok, Err}
use Rattle.std.specs.Int.{w8, w32, w64}
use Rattle.model_values.specs.Value.{Val, val_cmp}
use Rattle.model_values.specs.Token.{Tok}
use Rattle.model_values.specs.Row.{Row, row_cmp}
use Rattle.model_states.specs.Counts.{count_max}
use Rattle.model_states.specs.Content.{Content, of_set, of_grow, of_counts, of_top}
use Rattle.model_graph.specs.Chain.{◌>>=◌}
use Rattle.model_graph.specs.Graph.{Kind, OrSet, GSet, Counter, MaxReg}
use Rattle.model_graph.specs.Message.{Sent, Message}
use Rattle.model_graph.specs.Spelling.{Group}
use Rattle.model_values.specs.Name.{is_name}
use Rattle.model_wire.specs.declared.wire_why.WireWhy.{WireWhy}
use Rattle.model_wire.specs.declared.wire_why.WireWhy.TheVariants as why
use Rattle.model_wire.specs.Reader.{Reader, bytes_at, nothing_at, tested, both_at, counted, made, list_at, number_at, ranged_at, kind_at, magic_at}
use Rattle.model_wire.specs.Value.{signed_at, value_at, token_at, row_at, is_above, mark_cmp, latest}

-- the most rows of a set
abbrev pub row_limit : ℕ
row_limit = 65536

-- the most updates of a replica
abbrev pub update_limit : ℕ
update_limit = 100000

-- the most sources of a message
abbrev pub source_limit : ℕ
source_limit = 64

-- version 1: so many rows, ascending
abbrev pub row_after_at : ℕ → Option Row → Reader Row
row_after_at nodes before = tested (row_at nodes) (is_above row_cmp before) why.Order

unfoldable pub single_rows_at : ℕ → Reader (List Row)
single_rows_at nodes = counted (ranged_at w32 0 row_limit) (λ n. list_at (row_after_at nodes) latest n None)

-- version 2: the tokens of one value, ascending
abbrev pub token_after_at : ℕ → Option (Tok × Bool) → Reader (Tok × Bool)
token_after_at nodes before = tested (token_at nodes) (is_above mark_cmp before) why.Order

unfoldable pub tokens_at : ℕ → ℕ → Reader (List (Tok × Bool))
tokens_at nodes n = list_at (token_after_at nodes) latest n None

-- what is known of the values before one: the last of them, and how many rows they have
abbrev pub Before : Type 0
Before = Option Val × ℕ

abbrev pub value_after_at : Option Val → Reader Val
value_after_at before = tested value_at (is_above val_cmp before) why.Order

abbrev pub group_made : Val × List (Tok × Bool) → Group
group_made p = record { value = p.0; tokens = p.1 }

-- a value above the one before it, and its tokens, with which the set has no more rows than it may
unfoldable pub group_at : ℕ → Before → Reader Group
group_at nodes before = made group_made (both_at (value_after_at before.0) (λ _. counted (ranged_at w32 1 (row_limit - before.1)) (tokens_at nodes)))

abbrev pub after_group : Before → Group → Before
after_group before group = (Some group.value, before.1 + length group.tokens)

-- the rows of one value
abbrev pub row_of : Val → Tok × Bool → Row
row_of v t = ((v, t.0), t.1)

abbrev pub rows_of_group : Group → List Row
rows_of_group group = map (row_of group.value) group.tokens

abbrev pub rows_of : List Group → List Row
rows_of groups = flat_map rows_of_group groups

unfoldable pub groups_at : ℕ → Reader (List Group)
groups_at nodes = counted (ranged_at w32 0 row_limit) (λ n. list_at (group_at nodes) after_group n (None, 0))

unfoldable pub grouped_rows_at : ℕ → Reader (List Row)
grouped_rows_at nodes = made rows_of (groups_at nodes)

-- the rows of a set, by the version
abbrev pub rows_at : ℕ → ℕ → Reader (List Row)
rows_at version nodes = if version == 1 then single_rows_at nodes else grouped_rows_at nodes

-- the elements of a grow-only set, ascending
unfoldable pub elements_at : Reader (List Val)
elements_at = counted (ranged_at w32 0 row_limit) (λ n. list_at value_after_at latest n None)

-- so many numbers of 64 bits, each at most a limit
abbrev pub limited_at : ℕ → Unit {0} → Reader ℕ
limited_at most _ = ranged_at w64 0 most

abbrev pub nothing_more : Unit {0} → ℕ → Unit {0}
nothing_more s n = s

unfoldable pub numbers_at : ℕ → ℕ → Reader (List ℕ)
numbers_at most n = list_at (limited_at most) nothing_more n tt

abbrev pub no_number : Unit {0} → Option ℤ
no_number _ = None

abbrev pub some_number : ℤ → Option ℤ
some_number n = Some n

-- whether there is a number, and the number
abbrev pub top_behind : ℕ → Reader (Option ℤ)
top_behind present = if present == 1 then made some_number signed_at else made no_number nothing_at

unfoldable pub top_at : Reader (Option ℤ)
top_at = counted (kind_at 0 1) top_behind

-- a kind and what a source of it holds
abbrev pub Held : Type 0
Held = Kind × Content

abbrev pub held_set : List Row → Held
held_set rows = (OrSet, of_set rows)

abbrev pub held_elements : List Val → Held
held_elements values = (GSet, of_grow values)

abbrev pub held_counts : List ℕ → Held
held_counts counts = (Counter, of_counts counts)

abbrev pub held_top : Option ℤ → Held
held_top top = (MaxReg, of_top top)

-- what a source of the kind with this number holds
abbrev pub held_behind : ℕ → ℕ → ℕ → Reader Held
held_behind version nodes kind =
    if kind == 1 then made held_set (rows_at version nodes)
    else (if kind == 2 then made held_elements elements_at
    else (if kind == 3 then made held_counts (numbers_at count_max nodes)
    else made held_top top_at))

unfoldable pub held_at : ℕ → ℕ → Reader Held
held_at version nodes = counted (kind_at 1 4) (held_behind version nodes)

-- a name, with its length before it
unfoldable pub name_at : Reader (List ℕ)
name_at = counted (ranged_at w8 1 32) (λ n. tested (bytes_at n) is_name why.Text)

abbrev pub source_made : List ℕ × Held → Sent
source_made p = record { decl = record { name = p.0; kind = p.1.0 }; content = p.1.1 }

unfoldable pub source_at : ℕ → ℕ → Reader Sent
source_at version nodes = made source_made (both_at name_at (λ _. held_at version nodes))

abbrev pub any_source_at : ℕ → ℕ → Unit {0} → Reader Sent
any_source_at version nodes _ = source_at version nodes

abbrev pub nothing_of_sources : Unit {0} → Sent → Unit {0}
nothing_of_sources s x = s

unfoldable pub sources_at : ℕ → ℕ → Reader (List Sent)
sources_at version nodes = counted (ranged_at w8 0 source_limit) (λ n. list_at (any_source_at version nodes) nothing_of_sources n tt)

-- how many nodes there are, from 1 to 8
abbrev pub nodes_at : Reader ℕ
nodes_at = ranged_at w8 1 8

-- the counts, with their number before them
unfoldable pub counts_at : Reader (List ℕ)
counts_at = counted nodes_at (numbers_at update_limit)

abbrev pub message_made : List ℕ × List Sent → Message
message_made p = record { counts = p.0; sources = p.1 }

-- what stands behind the version
unfoldable pub body_at : ℕ → Reader Message
body_at version = made message_made (both_at counts_at (λ counts. sources_at version (length counts)))

abbrev pub is_version : ℕ → Bool
is_version n = n == 1 || n == 2

-- `LASP` and the version
unfoldable pub version_at : Reader ℕ
version_at = counted (magic_at 76) (λ _. counted (magic_at 65) (λ _. counted (magic_at 83) (λ _. counted (magic_at 80) (λ _. tested (number_at w8) is_version why.Magic))))

-- the version and the message
unfoldable pub message_at : Reader (ℕ × Message)
message_at = both_at version_at body_at

-- the message that all of the bytes are
abbrev pub nothing_behind : (ℕ × Message) × List ℕ → Result Message (ℕ × WireWhy)
nothing_behind m = if length m.1 == 0 then Ok m.0.1 else Err (length m.1, why.Rest)

unfoldable pub read_message : List ℕ → Result Message (ℕ × WireWhy)
read_message bytes = message_at bytes >>= nothing_behind

-- a refusal with the place of the field in all of the bytes
abbrev pub placed : List ℕ → ℕ × WireWhy → ℕ × WireWhy
placed bytes e = (length bytes - e.0, e.1)

abbrev pub decoded_from : {X : Type 0} → List ℕ → Result X (ℕ × WireWhy) → Result X (ℕ × WireWhy)
decoded_from bytes (Ok x) = Ok x
decoded_from bytes (Err e) = Err (placed bytes e)

-- the message that the bytes are, or the place and the cause of the first field that can't be read
unfoldable pub decoded : List ℕ → Result Message (ℕ × WireWhy)
decoded bytes = decoded_from bytes (read_message bytes)
