-- No part of a message is refused for a beginning that is another, or for what follows its end. One lemma for each way to put readers together.
use Rattle.std.proofs.Common.{◌≡◌, ℕ, zero, suc, ◌-◌, Bool, true, false, cond, eqb, ltb, ℤ, List, ◌∷◌, length, take, drop, Option, None, Ok, Err, subst}
use Rattle.std.specs.Int.{Width, w8, w16, w32, w64, byte_len, from_be_bytes, cast_signed}
use Rattle.std.specs.Str.{is_utf8}
use Rattle.model_values.specs.Value.{Val, val_cmp}
use Rattle.model_values.specs.Token.{Tok}
use Rattle.model_values.specs.Row.{Row, row_cmp}
use Rattle.model_values.specs.Name.{is_name}
use Rattle.model_states.specs.Counts.{count_max}
use Rattle.model_graph.specs.Chain.{◌>>=◌}
use Rattle.model_graph.specs.Message.{Sent}
use Rattle.model_graph.specs.Spelling.{Group}
use Rattle.model_wire.specs.declared.wire_why.WireWhy.{WireWhy}
use Rattle.model_wire.specs.declared.wire_why.WireWhy.TheVariants as why
use Rattle.model_wire.specs.Reader.{Reading, Reader, bytes_at, nothing_at, tested, both_at, counted, made, list_at, between, number_at, ranged_at, kind_at}
use Rattle.model_wire.specs.Value.{signed_at, text_at, Part, int_part, text_part, pair_part, part_at, part_value, value_at, token_parts_at, token_made, token_at, row_made, row_at, is_above, mark_cmp, latest}
use Rattle.model_wire.specs.Message.{row_limit, update_limit, source_limit, row_after_at, single_rows_at, token_after_at, tokens_at, Before, value_after_at, group_made, group_at, after_group, rows_of, groups_at, grouped_rows_at, rows_at, elements_at, limited_at, nothing_more, numbers_at, no_number, some_number, top_behind, top_at, Held, held_set, held_elements, held_counts, held_top, held_behind, held_at, name_at, source_made, source_at, any_source_at, nothing_of_sources, sources_at, nodes_at}
use Rattle.model_wire.proofs.ValueLaws.{pair_behind}
use Rattle.model_deltas.specs.Causes.{IsOfPart}

abbrev IsRefusedSo : {Y : Type 0} → Reading Y → Type 0
IsRefusedSo (Ok y) = Unit {0}
IsRefusedSo (Err e) = IsOfPart e.1

abbrev IsPart : {Y : Type 0} → Reader Y → Type 0
IsPart read = (bytes : List ℕ) → IsRefusedSo (read bytes)

-- ---- ways to put readers together

abbrev pure : {Y : Type 0} → Y → Reader Y
pure y bytes = Ok (y, bytes)

counted_part : (X Y : Type 0) (read : Reader X) (next : X → Reader Y) → IsPart read → ((x : X) → IsPart (next x)) → IsPart (counted read next)
counted_part X Y read next h k bytes = first (read bytes) (h bytes) where
  first : (r : Reading X) → IsRefusedSo r → IsRefusedSo (r >>= (λ x. next x.0 x.1))
  first (Ok x) t = k x.0 x.1
  first (Err e) t = t

made_part : (X Y : Type 0) (make : X → Y) (read : Reader X) → IsPart read → IsPart (made make read)
made_part X Y make read h = counted_part X Y read (λ x. pure (make x)) h (λ x bytes. tt)

tested_part : (X : Type 0) (read : Reader X) (test : X → Bool) (w : WireWhy) → IsOfPart w → IsPart read → IsPart (tested read test w)
tested_part X read test w own h bytes = first (read bytes) (h bytes) where
  passed : (x : X × List ℕ) (b : Bool) → IsRefusedSo (cond b (Ok x) (Err (length bytes, w)))
  passed x true = tt
  passed x false = own

  first : (r : Reading X) → IsRefusedSo r → IsRefusedSo (r >>= (λ x. cond (test x.0) (Ok x) (Err (length bytes, w))))
  first (Ok x) t = passed x (test x.0)
  first (Err e) t = t

both_part : (X Y : Type 0) (read : Reader X) (next : X → Reader Y) → IsPart read → ((x : X) → IsPart (next x)) → IsPart (both_at read next)
both_part X Y read next h k = counted_part X (X × Y) read (λ x. made (λ y. (x, y)) (next x)) h (λ x. made_part Y (X × Y) (λ y. (x, y)) (next x) (k x))

list_part : (S X : Type 0) (read : S → Reader X) (next : S → X → S) → ((s : S) → IsPart (read s)) → (n : ℕ) (s : S) → IsPart (list_at read next n s)
unfolding list_at
list_part S X read next h zero s = λ bytes. tt
list_part S X read next h (suc n) s =
    counted_part X (List X) (read s) (λ x. made (λ xs. x ∷ xs) (list_at read next n (next s x))) (h s)
    (λ x. made_part (List X) (List X) (λ xs. x ∷ xs) (list_at read next n (next s x)) (list_part S X read next h n (next s x)))

choice_part : (Y : Type 0) (b : Bool) (r s : Reader Y) → IsPart r → IsPart s → IsPart (λ bytes. cond b (r bytes) (s bytes))
choice_part Y true r s h k = h
choice_part Y false r s h k = k

-- ---- the fields

short : IsOfPart why.Short
short = (λ e. cc, λ e. cc)

kind : IsOfPart why.Kind
kind = (λ e. cc, λ e. cc)

order : IsOfPart why.Order
order = (λ e. cc, λ e. cc)

text : IsOfPart why.Text
text = (λ e. cc, λ e. cc)

range : IsOfPart why.Range
range = (λ e. cc, λ e. cc)

bytes_part : (n : ℕ) → IsPart (bytes_at n)
bytes_part n bytes = by (ltb (length bytes) n) where
  by : (b : Bool) → IsRefusedSo (cond b (Err (length bytes, why.Short)) (Ok (take n bytes, drop n bytes)))
  by true = short
  by false = tt

number_part : (w : Width) → IsPart (number_at w)
number_part w = made_part (List ℕ) ℕ (from_be_bytes w) (bytes_at (byte_len w)) (bytes_part (byte_len w))

ranged_part : (w : Width) (least most : ℕ) → IsPart (ranged_at w least most)
ranged_part w least most = tested_part ℕ (number_at w) (between least most) why.Range range (number_part w)

kind_part : (least most : ℕ) → IsPart (kind_at least most)
kind_part least most = tested_part ℕ (number_at w8) (between least most) why.Kind kind (number_part w8)

signed_part : IsPart signed_at
signed_part = made_part ℕ ℤ (cast_signed w64) (number_at w64) (number_part w64)

text_part_of : (room : ℕ) → IsPart (text_at room)
unfolding text_at
text_part_of room = counted_part ℕ (List ℕ) (ranged_at w16 0 room) (λ n. tested (bytes_at n) is_utf8 why.Text) (ranged_part w16 0 room) (λ n. tested_part (List ℕ) (bytes_at n) is_utf8 why.Text text (bytes_part n))

-- ---- values and rows

-- behind its tag; a pair where none may stand is refused at the tag
abbrev pair_or_none : ℕ → ℕ → ℕ → ℕ → Reader Part
pair_or_none left depth pairs room bytes = cond (eqb pairs 0) (Err (left, why.Range)) (pair_behind depth pairs room bytes)

abbrev text_or_pair : ℕ → ℕ → ℕ → ℕ → ℕ → Reader Part
text_or_pair left depth pairs room tag bytes = cond (eqb tag 1) (made (text_part pairs room) (text_at room) bytes) (pair_or_none left depth pairs room bytes)

abbrev behind_tag : ℕ → ℕ → ℕ → ℕ → ℕ → Reader Part
behind_tag left depth pairs room tag bytes = cond (eqb tag 0) (made (int_part pairs room) signed_at bytes) (text_or_pair left depth pairs room tag bytes)

part_part : (depth pairs room : ℕ) → IsPart (part_at depth pairs room)
unfolding part_at
part_part zero pairs room = λ bytes. range
part_part (suc depth) pairs room = λ bytes. counted_part ℕ Part (kind_at 0 2) (behind_tag (length bytes) depth pairs room) (kind_part 0 2) (behind (length bytes) (pair (part_part depth))) bytes where
  pair : ((pairs room : ℕ) → IsPart (part_at depth pairs room)) → IsPart (pair_behind depth pairs room)
  pair shorter =
      counted_part Part Part (part_at depth (pairs - 1) room) (λ a. made (pair_part a.value) (part_at depth a.pairs a.room)) (shorter (pairs - 1) room)
      (λ a. made_part Part Part (pair_part a.value) (part_at depth a.pairs a.room) (shorter a.pairs a.room))

  behind : (left : ℕ) → IsPart (pair_behind depth pairs room) → (tag : ℕ) → IsPart (behind_tag left depth pairs room tag)
  behind left paired tag =
      choice_part Part (eqb tag 0) (made (int_part pairs room) signed_at) (text_or_pair left depth pairs room tag) (made_part ℤ Part (int_part pairs room) signed_at signed_part)
      (choice_part Part (eqb tag 1) (made (text_part pairs room) (text_at room)) (pair_or_none left depth pairs room) (made_part (List ℕ) Part (text_part pairs room) (text_at room) (text_part_of room))
      (choice_part Part (eqb pairs 0) (λ _. Err (left, why.Range)) (pair_behind depth pairs room) (λ _. range) paired))

value_part : IsPart value_at
unfolding value_at
value_part = made_part Part Val part_value (part_at 8 7 256) (part_part 8 7 256)

token_part : (nodes : ℕ) → IsPart (token_at nodes)
unfolding token_at
token_part nodes =
    made_part (ℕ × (ℕ × ℕ)) (Tok × Bool) token_made (token_parts_at nodes)
    (both_part ℕ (ℕ × ℕ) (ranged_at w8 0 (nodes - 1)) (λ _. both_at (ranged_at w64 1 100000) (λ _. kind_at 0 1)) (ranged_part w8 0 (nodes - 1))
    (λ _. both_part ℕ ℕ (ranged_at w64 1 100000) (λ _. kind_at 0 1) (ranged_part w64 1 100000) (λ _. kind_part 0 1)))

row_part : (nodes : ℕ) → IsPart (row_at nodes)
unfolding row_at
row_part nodes = made_part (Val × (Tok × Bool)) Row row_made (both_at value_at (λ _. token_at nodes)) (both_part Val (Tok × Bool) value_at (λ _. token_at nodes) value_part (λ _. token_part nodes))

-- ---- what a source holds

-- so many items, with their number before them
many_part : (S X : Type 0) (w : Width) (least most : ℕ) (read : S → Reader X) (next : S → X → S) (s : S) → ((t : S) → IsPart (read t)) → IsPart (counted (ranged_at w least most) (λ n. list_at read next n s))
many_part S X w least most read next s h = counted_part ℕ (List X) (ranged_at w least most) (λ n. list_at read next n s) (ranged_part w least most) (λ n. list_part S X read next h n s)

single_rows_part : (nodes : ℕ) → IsPart (single_rows_at nodes)
unfolding single_rows_at
single_rows_part nodes = many_part (Option Row) Row w32 0 row_limit (row_after_at nodes) latest None (λ s. tested_part Row (row_at nodes) (is_above row_cmp s) why.Order order (row_part nodes))

value_after_part : (s : Option Val) → IsPart (value_after_at s)
value_after_part s = tested_part Val value_at (is_above val_cmp s) why.Order order value_part

elements_part : IsPart elements_at
unfolding elements_at
elements_part = many_part (Option Val) Val w32 0 row_limit value_after_at latest None value_after_part

tokens_part : (nodes n : ℕ) → IsPart (tokens_at nodes n)
unfolding tokens_at
tokens_part nodes n = list_part (Option (Tok × Bool)) (Tok × Bool) (token_after_at nodes) latest (λ s. tested_part (Tok × Bool) (token_at nodes) (is_above mark_cmp s) why.Order order (token_part nodes)) n None

group_part : (nodes : ℕ) (before : Before) → IsPart (group_at nodes before)
unfolding group_at
group_part nodes before =
    made_part (Val × List (Tok × Bool)) Group group_made (both_at (value_after_at before.0) (λ _. counted (ranged_at w32 1 (row_limit - before.1)) (tokens_at nodes)))
    (both_part Val (List (Tok × Bool)) (value_after_at before.0) (λ _. counted (ranged_at w32 1 (row_limit - before.1)) (tokens_at nodes)) (value_after_part before.0)
    (λ _. counted_part ℕ (List (Tok × Bool)) (ranged_at w32 1 (row_limit - before.1)) (tokens_at nodes) (ranged_part w32 1 (row_limit - before.1)) (tokens_part nodes)))

grouped_rows_part : (nodes : ℕ) → IsPart (grouped_rows_at nodes)
unfolding grouped_rows_at groups_at
grouped_rows_part nodes = made_part (List Group) (List Row) rows_of (groups_at nodes) (many_part Before Group w32 0 row_limit (group_at nodes) after_group (None, 0) (group_part nodes))

rows_part : (version nodes : ℕ) → IsPart (rows_at version nodes)
rows_part version nodes = elim (eqb version 1) as (λ b. IsPart (cond b (single_rows_at nodes) (grouped_rows_at nodes))) [ true ↦ single_rows_part nodes | false ↦ grouped_rows_part nodes ]

numbers_part : (most n : ℕ) → IsPart (numbers_at most n)
unfolding numbers_at
numbers_part most n = list_part (Unit {0}) ℕ (limited_at most) nothing_more (λ _. ranged_part w64 0 most) n tt

top_part : IsPart top_at
unfolding top_at
top_part =
    counted_part ℕ (Option ℤ) (kind_at 0 1) top_behind (kind_part 0 1)
    (λ n. elim (eqb n 1) as (λ b. IsPart (cond b (made some_number signed_at) (made no_number nothing_at))) [
      | true ↦ made_part ℤ (Option ℤ) some_number signed_at signed_part
      | false ↦ made_part (Unit {0}) (Option ℤ) no_number nothing_at (λ bytes. tt)
    ])

held_part : (version nodes : ℕ) → IsPart (held_at version nodes)
unfolding held_at
held_part version nodes = counted_part ℕ Held (kind_at 1 4) (held_behind version nodes) (kind_part 1 4) behind where
  set : IsPart (made held_set (rows_at version nodes))
  set = made_part (List Row) Held held_set (rows_at version nodes) (rows_part version nodes)

  grow : IsPart (made held_elements elements_at)
  grow = made_part (List Val) Held held_elements elements_at elements_part

  counter : IsPart (made held_counts (numbers_at count_max nodes))
  counter = made_part (List ℕ) Held held_counts (numbers_at count_max nodes) (numbers_part count_max nodes)

  register : IsPart (made held_top top_at)
  register = made_part (Option ℤ) Held held_top top_at top_part

  either : (b : Bool) (r s : Reader Held) → IsPart r → IsPart s → IsPart (cond b r s)
  either true r s h k = h
  either false r s h k = k

  behind : (k : ℕ) → IsPart (held_behind version nodes k)
  behind k = either (eqb k 1) _ _ set (either (eqb k 2) _ _ grow (either (eqb k 3) _ _ counter register))

-- ---- sources

name_part : IsPart name_at
unfolding name_at
name_part = counted_part ℕ (List ℕ) (ranged_at w8 1 32) (λ n. tested (bytes_at n) is_name why.Text) (ranged_part w8 1 32) (λ n. tested_part (List ℕ) (bytes_at n) is_name why.Text text (bytes_part n))

source_part : (version nodes : ℕ) → IsPart (source_at version nodes)
unfolding source_at
source_part version nodes =
    made_part (List ℕ × Held) Sent source_made (both_at name_at (λ _. held_at version nodes)) (both_part (List ℕ) Held name_at (λ _. held_at version nodes) name_part (λ _. held_part version nodes))

sources_part : (version nodes : ℕ) → IsPart (sources_at version nodes)
unfolding sources_at
sources_part version nodes = many_part (Unit {0}) Sent w8 0 source_limit (any_source_at version nodes) nothing_of_sources tt (λ _. source_part version nodes)

-- ---- what is refused

pub cause-nodes : (bytes : List ℕ) (left : ℕ) (w : WireWhy) → nodes_at bytes ≡ Err (left, w) → IsOfPart w
cause-nodes bytes left w e = subst IsRefusedSo e (ranged_part w8 1 8 bytes)

pub cause-count : (bytes : List ℕ) (left : ℕ) (w : WireWhy) → ranged_at w64 0 update_limit bytes ≡ Err (left, w) → IsOfPart w
cause-count bytes left w e = subst IsRefusedSo e (ranged_part w64 0 update_limit bytes)

pub cause-sources : (version nodes : ℕ) (bytes : List ℕ) (left : ℕ) (w : WireWhy) → sources_at version nodes bytes ≡ Err (left, w) → IsOfPart w
cause-sources version nodes bytes left w e = subst IsRefusedSo e (sources_part version nodes bytes)

pub ruleset causes = (cause-nodes, cause-count, cause-sources)
