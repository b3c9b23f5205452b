-- A reader leaves no more bytes than there were, and a field that fails stands among them. One lemma for each way to put readers together.
use Rattle.std.proofs.Common.{◌≡◌, ℕ, zero, suc, ◌-◌, ◌≤◌, Bool, true, false, cond, eqb, ltb, List, length, take, drop, Option, None, ℤ, Result, Ok, Err, ap, arith}
use Rattle.std.specs.Int.{Width, w8, w16, w32, w64, byte_len, from_be_bytes, cast_signed}
use Rattle.std.specs.Str.{is_utf8}
use Rattle.std.proofs.lemmas.List.{length-drop}
use Rattle.model_values.specs.Value.{Val, val_cmp}
use Rattle.model_values.specs.Token.{Tok}
use Rattle.model_values.specs.Row.{Row, row_cmp}
use Rattle.model_graph.specs.Chain.{◌>>=◌}
use Rattle.model_graph.specs.Message.{Sent, Message}
use Rattle.model_graph.specs.Spelling.{Group}
use Rattle.model_values.specs.Name.{is_name}
use Rattle.model_states.specs.Counts.{count_max}
use Rattle.model_wire.specs.declared.wire_why.WireWhy.{WireWhy}
use Rattle.model_wire.specs.declared.wire_why.WireWhy.TheVariants as why
use Rattle.model_wire.specs.Reader.{Reading, Reader, bytes_at, nothing_at, if_passes, tested, paired, both_at, counted, remade, made, onto, list_at, between, number_at, ranged_at, kind_at, magic_at}
use Rattle.model_wire.specs.Value.{signed_at, text_at, Part, int_part, text_part, pair_part, part_at, part_value, value_at, token_parts_at, token_made, token_at, row_made, row_at, is_above, mark_cmp, latest}
use Rattle.model_wire.specs.Message.{row_limit, update_limit, source_limit, row_after_at, single_rows_at, token_after_at, tokens_at, Before, value_after_at, group_made, group_at, after_group, rows_of, groups_at, grouped_rows_at, rows_at, elements_at, limited_at, nothing_more, numbers_at, no_number, some_number, top_behind, top_at, Held, held_set, held_elements, held_counts, held_top, held_behind, held_at, name_at, source_made, source_at, any_source_at, nothing_of_sources, sources_at, nodes_at, counts_at, message_made, body_at, is_version, version_at, message_at, nothing_behind, read_message, placed, decoded_from, decoded}
use Rattle.model_wire.proofs.ValueLaws.{pair_behind, behind_tag}
use Rattle.model_wire.proofs.PrefixLaws.{refusal_is}

-- what is left is no more than n, and so are the bytes from the failing field on
abbrev pub Inside : {X : Type 0} → ℕ → Reading X → Type 0
Inside n (Ok x) = length x.1 ≤ n
Inside n (Err e) = e.0 ≤ n

abbrev pub IsInside : {X : Type 0} → Reader X → Type 0
IsInside read = (bytes : List ℕ) → Inside (length bytes) (read bytes)

pub bind_inside : (X Y : Type 0) (n : ℕ) (r : Reading X) (f : X × List ℕ → Reading Y) → Inside n r → ((x : X × List ℕ) → length x.1 ≤ n → Inside n (f x)) → Inside n (r >>= f)
bind_inside X Y n (Ok x) f h next = next x h
bind_inside X Y n (Err e) f h next = h

pub lower : (X : Type 0) (m n : ℕ) (r : Reading X) → m ≤ n → Inside m r → Inside n r
lower X m n (Ok x) le h = omega (arith, le, h)
lower X m n (Err e) le h = omega (arith, le, h)

pub choice_inside : (X : Type 0) (n : ℕ) (b : Bool) (r s : Reading X) → Inside n r → Inside n s → Inside n (cond b r s)
choice_inside X n true r s h k = h
choice_inside X n false r s h k = k

bytes_inside : (n : ℕ) → IsInside (bytes_at n)
bytes_inside n bytes = choice_inside (List ℕ) (length bytes) (ltb (length bytes) n) (Err (length bytes, why.Short)) (Ok (take n bytes, drop n bytes)) (omega arith) (omega (arith, length-drop n bytes))

nothing_inside : IsInside nothing_at
nothing_inside bytes = omega arith

pub made_inside : (X Y : Type 0) (make : X → Y) (read : Reader X) → IsInside read → IsInside (made make read)
made_inside X Y make read h bytes = bind_inside X Y (length bytes) (read bytes) (remade make) (h bytes) (λ x le. le)

pub tested_inside : (X : Type 0) (read : Reader X) (test : X → Bool) (w : WireWhy) → IsInside read → IsInside (tested read test w)
tested_inside X read test w h bytes =
    bind_inside X X (length bytes) (read bytes) (if_passes test (length bytes, w)) (h bytes) (λ x le. choice_inside X (length bytes) (test x.0) (Ok x) (Err (length bytes, w)) le (omega arith))

pub counted_inside : (X Y : Type 0) (read : Reader X) (next : X → Reader Y) → IsInside read → ((x : X) → IsInside (next x)) → IsInside (counted read next)
counted_inside X Y read next h k bytes =
    bind_inside X Y (length bytes) (read bytes) (λ x. next x.0 x.1) (h bytes) (λ x le. lower Y (length x.1) (length bytes) (next x.0 x.1) le (k x.0 x.1))

pub both_inside : (X Y : Type 0) (read : Reader X) (next : X → Reader Y) → IsInside read → ((x : X) → IsInside (next x)) → IsInside (both_at read next)
both_inside X Y read next h k bytes =
    bind_inside X (X × Y) (length bytes) (read bytes) (λ x. next x.0 x.1 >>= paired x.0) (h bytes)
    (λ x le. bind_inside Y (X × Y) (length bytes) (next x.0 x.1) (paired x.0) (lower Y (length x.1) (length bytes) (next x.0 x.1) le (k x.0 x.1)) (λ y le'. le'))

pub list_inside : (S X : Type 0) (read : S → Reader X) (next : S → X → S) → ((s : S) → IsInside (read s)) → (n : ℕ) (s : S) → IsInside (list_at read next n s)
unfolding list_at
list_inside S X read next h zero s bytes = omega arith
list_inside S X read next h (suc n) s bytes =
    bind_inside X (List X) (length bytes) (read s bytes) (λ x. list_at read next n (next s x.0) x.1 >>= onto x.0) (h s bytes)
    (λ x le. bind_inside (List X) (List X) (length bytes) (list_at read next n (next s x.0) x.1) (onto x.0)
    (lower (List X) (length x.1) (length bytes) (list_at read next n (next s x.0) x.1) le (list_inside S X read next h n (next s x.0) x.1)) (λ xs le'. le'))

-- ---- the fields

number_inside : (w : Width) → IsInside (number_at w)
number_inside w = made_inside (List ℕ) ℕ (from_be_bytes w) (bytes_at (byte_len w)) (bytes_inside (byte_len w))

pub ranged_inside : (w : Width) (least most : ℕ) → IsInside (ranged_at w least most)
ranged_inside w least most = tested_inside ℕ (number_at w) (between least most) why.Range (number_inside w)

kind_inside : (least most : ℕ) → IsInside (kind_at least most)
kind_inside least most = tested_inside ℕ (number_at w8) (between least most) why.Kind (number_inside w8)

pub magic_inside : (b : ℕ) → IsInside (magic_at b)
magic_inside b = tested_inside ℕ (number_at w8) (λ n. eqb n b) why.Magic (number_inside w8)

signed_inside : IsInside signed_at
signed_inside = made_inside ℕ ℤ (cast_signed w64) (number_at w64) (number_inside w64)

text_inside : (room : ℕ) → IsInside (text_at room)
unfolding text_at
text_inside room = counted_inside ℕ (List ℕ) (ranged_at w16 0 room) (λ n. tested (bytes_at n) is_utf8 why.Text) (ranged_inside w16 0 room) (λ n. tested_inside (List ℕ) (bytes_at n) is_utf8 why.Text (bytes_inside n))

part_inside : (depth pairs room : ℕ) → IsInside (part_at depth pairs room)
unfolding part_at
part_inside zero pairs room bytes = omega arith
part_inside (suc depth) pairs room bytes =
    bind_inside ℕ Part (length bytes) (kind_at 0 2 bytes) (behind_tag (length bytes) depth pairs room) (kind_inside 0 2 bytes)
    (λ tag le. choice_inside Part (length bytes) (eqb tag.0 0) (made (int_part pairs room) signed_at tag.1) (cond (eqb tag.0 1) (made (text_part pairs room) (text_at room) tag.1) (cond (eqb pairs 0) (Err (length bytes, why.Range)) (pair_behind depth pairs room tag.1)))
    (lower Part (length tag.1) (length bytes) (made (int_part pairs room) signed_at tag.1) le (made_inside ℤ Part (int_part pairs room) signed_at signed_inside tag.1))
    (choice_inside Part (length bytes) (eqb tag.0 1) (made (text_part pairs room) (text_at room) tag.1) (cond (eqb pairs 0) (Err (length bytes, why.Range)) (pair_behind depth pairs room tag.1))
    (lower Part (length tag.1) (length bytes) (made (text_part pairs room) (text_at room) tag.1) le (made_inside (List ℕ) Part (text_part pairs room) (text_at room) (text_inside room) tag.1))
    (choice_inside Part (length bytes) (eqb pairs 0) (Err (length bytes, why.Range)) (pair_behind depth pairs room tag.1) (omega arith)
    (lower Part (length tag.1) (length bytes) (pair_behind depth pairs room tag.1) le
    (counted_inside Part Part (part_at depth (pairs - 1) room) (λ a. made (pair_part a.value) (part_at depth a.pairs a.room)) (part_inside depth (pairs - 1) room)
    (λ a. made_inside Part Part (pair_part a.value) (part_at depth a.pairs a.room) (part_inside depth a.pairs a.room)) tag.1)))))

value_inside : IsInside value_at
unfolding value_at
value_inside = made_inside Part Val part_value (part_at 8 7 256) (part_inside 8 7 256)

token_inside : (nodes : ℕ) → IsInside (token_at nodes)
unfolding token_at
token_inside nodes =
    made_inside (ℕ × (ℕ × ℕ)) (Tok × Bool) token_made (token_parts_at nodes)
    (both_inside ℕ (ℕ × ℕ) (ranged_at w8 0 (nodes - 1)) (λ _. both_at (ranged_at w64 1 100000) (λ _. kind_at 0 1)) (ranged_inside w8 0 (nodes - 1))
    (λ _. both_inside ℕ ℕ (ranged_at w64 1 100000) (λ _. kind_at 0 1) (ranged_inside w64 1 100000) (λ _. kind_inside 0 1)))

row_inside : (nodes : ℕ) → IsInside (row_at nodes)
unfolding row_at
row_inside nodes = made_inside (Val × (Tok × Bool)) Row row_made (both_at value_at (λ _. token_at nodes)) (both_inside Val (Tok × Bool) value_at (λ _. token_at nodes) value_inside (λ _. token_inside nodes))

-- so many items, with their number before them
many_inside : (S X : Type 0) (w : Width) (least most : ℕ) (read : S → Reader X) (next : S → X → S) (s : S) → ((t : S) → IsInside (read t)) → IsInside (counted (ranged_at w least most) (λ n. list_at read next n s))
many_inside S X w least most read next s h = counted_inside ℕ (List X) (ranged_at w least most) (λ n. list_at read next n s) (ranged_inside w least most) (λ n. list_inside S X read next h n s)

single_rows_inside : (nodes : ℕ) → IsInside (single_rows_at nodes)
unfolding single_rows_at
single_rows_inside nodes = many_inside (Option Row) Row w32 0 row_limit (row_after_at nodes) latest None (λ s. tested_inside Row (row_at nodes) (is_above row_cmp s) why.Order (row_inside nodes))

value_after_inside : (s : Option Val) → IsInside (value_after_at s)
value_after_inside s = tested_inside Val value_at (is_above val_cmp s) why.Order value_inside

elements_inside : IsInside elements_at
unfolding elements_at
elements_inside = many_inside (Option Val) Val w32 0 row_limit value_after_at latest None value_after_inside

tokens_inside : (nodes n : ℕ) → IsInside (tokens_at nodes n)
unfolding tokens_at
tokens_inside nodes n = list_inside (Option (Tok × Bool)) (Tok × Bool) (token_after_at nodes) latest (λ s. tested_inside (Tok × Bool) (token_at nodes) (is_above mark_cmp s) why.Order (token_inside nodes)) n None

group_inside : (nodes : ℕ) (before : Before) → IsInside (group_at nodes before)
unfolding group_at
group_inside nodes before =
    made_inside (Val × List (Tok × Bool)) Group group_made (both_at (value_after_at before.0) (λ _. counted (ranged_at w32 1 (row_limit - before.1)) (tokens_at nodes)))
    (both_inside Val (List (Tok × Bool)) (value_after_at before.0) (λ _. counted (ranged_at w32 1 (row_limit - before.1)) (tokens_at nodes)) (value_after_inside before.0)
    (λ _. counted_inside ℕ (List (Tok × Bool)) (ranged_at w32 1 (row_limit - before.1)) (tokens_at nodes) (ranged_inside w32 1 (row_limit - before.1)) (tokens_inside nodes)))

grouped_rows_inside : (nodes : ℕ) → IsInside (grouped_rows_at nodes)
unfolding grouped_rows_at groups_at
grouped_rows_inside nodes = made_inside (List Group) (List Row) rows_of (groups_at nodes) (many_inside Before Group w32 0 row_limit (group_at nodes) after_group (None, 0) (group_inside nodes))

rows_inside : (version nodes : ℕ) → IsInside (rows_at version nodes)
rows_inside version nodes = elim (eqb version 1) as (λ b. IsInside (cond b (single_rows_at nodes) (grouped_rows_at nodes))) [ true ↦ single_rows_inside nodes | false ↦ grouped_rows_inside nodes ]

pub numbers_inside : (most n : ℕ) → IsInside (numbers_at most n)
unfolding numbers_at
numbers_inside most n = list_inside (Unit {0}) ℕ (limited_at most) nothing_more (λ _. ranged_inside w64 0 most) n tt

top_inside : IsInside top_at
unfolding top_at
top_inside =
    counted_inside ℕ (Option ℤ) (kind_at 0 1) top_behind (kind_inside 0 1)
    (λ n. elim (eqb n 1) as (λ b. IsInside (cond b (made some_number signed_at) (made no_number nothing_at))) [
      | true ↦ made_inside ℤ (Option ℤ) some_number signed_at signed_inside
      | false ↦ made_inside (Unit {0}) (Option ℤ) no_number nothing_at nothing_inside
    ])

held_inside : (version nodes : ℕ) → IsInside (held_at version nodes)
unfolding held_at
held_inside version nodes = counted_inside ℕ Held (kind_at 1 4) (held_behind version nodes) (kind_inside 1 4) behind
  where
    set : IsInside (made held_set (rows_at version nodes))
    set = made_inside (List Row) Held held_set (rows_at version nodes) (rows_inside version nodes)

    grow : IsInside (made held_elements elements_at)
    grow = made_inside (List Val) Held held_elements elements_at elements_inside

    counter : IsInside (made held_counts (numbers_at count_max nodes))
    counter = made_inside (List ℕ) Held held_counts (numbers_at count_max nodes) (numbers_inside count_max nodes)

    register : IsInside (made held_top top_at)
    register = made_inside (Option ℤ) Held held_top top_at top_inside

    either : (b : Bool) (r s : Reader Held) → IsInside r → IsInside s → IsInside (cond b r s)
    either true r s h k = h
    either false r s h k = k

    behind : (k : ℕ) → IsInside (held_behind version nodes k)
    behind k = either (eqb k 1) _ _ set (either (eqb k 2) _ _ grow (either (eqb k 3) _ _ counter register))

name_inside : IsInside name_at
unfolding name_at
name_inside = counted_inside ℕ (List ℕ) (ranged_at w8 1 32) (λ n. tested (bytes_at n) is_name why.Text) (ranged_inside w8 1 32) (λ n. tested_inside (List ℕ) (bytes_at n) is_name why.Text (bytes_inside n))

source_inside : (version nodes : ℕ) → IsInside (source_at version nodes)
unfolding source_at
source_inside version nodes =
    made_inside (List ℕ × Held) Sent source_made (both_at name_at (λ _. held_at version nodes)) (both_inside (List ℕ) Held name_at (λ _. held_at version nodes) name_inside (λ _. held_inside version nodes))

pub sources_inside : (version nodes : ℕ) → IsInside (sources_at version nodes)
unfolding sources_at
sources_inside version nodes = many_inside (Unit {0}) Sent w8 0 source_limit (any_source_at version nodes) nothing_of_sources tt (λ _. source_inside version nodes)

pub counts_inside : IsInside counts_at
unfolding counts_at
counts_inside = counted_inside ℕ (List ℕ) nodes_at (numbers_at update_limit) (ranged_inside w8 1 8) (numbers_inside update_limit)

body_inside : (version : ℕ) → IsInside (body_at version)
unfolding body_at
body_inside version =
    made_inside (List ℕ × List Sent) Message message_made (both_at counts_at (λ counts. sources_at version (length counts)))
    (both_inside (List ℕ) (List Sent) counts_at (λ counts. sources_at version (length counts)) counts_inside (λ counts. sources_inside version (length counts)))

version_inside : IsInside version_at
unfolding version_at
version_inside =
    behind 76 _ (behind 65 _ (behind 83 _ (behind 80 (tested (number_at w8) is_version why.Magic) (tested_inside ℕ (number_at w8) is_version why.Magic (number_inside w8)))))
  where
    behind : (b : ℕ) (next : Reader ℕ) → IsInside next → IsInside (counted (magic_at b) (λ _. next))
    behind b next h = counted_inside ℕ ℕ (magic_at b) (λ _. next) (magic_inside b) (λ _. h)

message_inside : IsInside message_at
unfolding message_at
message_inside = both_inside ℕ Message version_at body_at version_inside body_inside

abbrev refusal : ℕ × WireWhy → Result Message (ℕ × WireWhy)
refusal e = Err e

-- the place of what can't be read stands among the bytes or at their end
pub refused_within : (bytes : List ℕ) (e : ℕ × WireWhy) → read_message bytes ≡ Err e → e.0 ≤ length bytes
unfolding read_message
refused_within bytes e h = by (message_at bytes) (message_inside bytes) h
  where
    by : (r : Reading (ℕ × Message)) → Inside (length bytes) r → (r >>= nothing_behind) ≡ Err e → e.0 ≤ length bytes
    by (Ok m) le k = behind (eqb (length m.1) 0) le k
      where
        behind : (b : Bool) → length m.1 ≤ length bytes → cond b (Ok m.0.1) (Err (length m.1, why.Rest)) ≡ Err e → e.0 ≤ length bytes
        behind true le k = absurd cc
        behind false le k = omega (arith, le, ap (λ (x : ℕ × WireWhy). x.0) (refusal_is (length m.1, why.Rest) e k))
    by (Err f) le k = omega (arith, le, ap (λ (x : ℕ × WireWhy). x.0) (refusal_is f e k))

pub places_within : (bytes : List ℕ) (place : ℕ) (w : WireWhy) → decoded bytes ≡ Err (place, w) → place ≤ length bytes
unfolding decoded
places_within bytes place w h = by (read_message bytes) h
  where
    by : (r : Result Message (ℕ × WireWhy)) → decoded_from bytes r ≡ Err (place, w) → place ≤ length bytes
    by (Ok m) k = absurd cc
    by (Err e) k = omega (arith, ap (λ (x : ℕ × WireWhy). x.0) (refusal_is (placed bytes e) (place, w) k))
