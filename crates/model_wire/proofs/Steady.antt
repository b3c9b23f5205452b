-- A reader looks at no byte behind those that it takes, and a field that fails does so whatever follows, unless the bytes end within it. One lemma for each way to put readers together.
use Rattle.std.proofs.Common.{◌≡◌, ◌≢◌, ℕ, zero, suc, ◌+◌, ◌-◌, Bool, true, false, cond, eqb, ltb, List, [], ◌∷◌, ◌++◌, length, take, drop, Option, None, ℤ, Ok, Err, refl, sym, ap, ◌∙◌, append_assoc, arith}
use Rattle.std.specs.Int.{Width, w8, w16, w32, w64, byte_len, from_be_bytes, cast_signed}
use Rattle.std.specs.Str.{is_utf8}
use Rattle.std.proofs.lemmas.Bool.{ltb-false}
use Rattle.std.proofs.lemmas.List.{take-append-drop, length-append, length-take}
use Rattle.model_values.specs.Value.{Val, val_cmp}
use Rattle.model_values.specs.Token.{Tok}
use Rattle.model_values.specs.Row.{Row, row_cmp}
use Rattle.model_graph.specs.Chain.{◌>>=◌}
use Rattle.model_graph.specs.Message.{Sent, Message}
use Rattle.model_graph.specs.Spelling.{Group}
use Rattle.model_values.specs.Name.{is_name}
use Rattle.model_states.specs.Counts.{count_max}
use Rattle.model_wire.specs.declared.wire_why.WireWhy.{WireWhy}
use Rattle.model_wire.specs.declared.wire_why.WireWhy.TheVariants as why
use Rattle.model_wire.specs.Reader.{Reading, Reader, bytes_at, nothing_at, tested, both_at, counted, made, list_at, between, number_at, ranged_at, kind_at, magic_at}
use Rattle.model_wire.specs.Value.{signed_at, text_at, Part, int_part, text_part, pair_part, part_at, part_value, value_at, token_parts_at, token_made, token_at, row_made, row_at, is_above, mark_cmp, latest}
use Rattle.model_wire.specs.Message.{row_limit, update_limit, source_limit, row_after_at, single_rows_at, token_after_at, tokens_at, Before, value_after_at, group_made, group_at, after_group, rows_of, groups_at, grouped_rows_at, rows_at, elements_at, limited_at, nothing_more, numbers_at, no_number, some_number, top_behind, top_at, Held, held_set, held_elements, held_counts, held_top, held_behind, held_at, name_at, source_made, source_at, any_source_at, nothing_of_sources, sources_at, nodes_at, counts_at, message_made, body_at, is_version, version_at, message_at}
use Rattle.model_wire.proofs.Codecs.{bytes_codec}
use Rattle.model_wire.proofs.ValueLaws.{pair_behind}

-- a reader that may name a place before its own bytes: it is told how many bytes stand from there on
abbrev pub Inner : Type 0 → Type 0
Inner Y = ℕ → Reader Y

-- the bytes that were taken give the same before any others
pub record Taken {Y : Type 0} (read : Inner Y) (bytes : List ℕ) (y : Y × List ℕ) : Type 0 where
  pub taken : List ℕ
  pub parts : bytes ≡ taken ++ y.1
  pub again : (left : ℕ) (rest : List ℕ) → read left (taken ++ rest) ≡ Ok (y.0, rest)

-- no field is refused for what follows the last; and but for bytes that end too early, more of them change nothing
pub record Refused {Y : Type 0} (read : Inner Y) (left : ℕ) (bytes : List ℕ) (e : ℕ × WireWhy) : Type 0 where
  pub no_rest : e.1 ≢ why.Rest
  pub stays : e.1 ≢ why.Short → (more : List ℕ) → read (left + length more) (bytes ++ more) ≡ Err (e.0 + length more, e.1)

abbrev pub Steady : {Y : Type 0} → Inner Y → ℕ → List ℕ → Reading Y → Type 0
Steady read left bytes (Ok y) = Taken read bytes y
Steady read left bytes (Err e) = Refused read left bytes e

abbrev pub IsSteadyInner : {Y : Type 0} → Inner Y → Type 0
IsSteadyInner read = (left : ℕ) (bytes : List ℕ) → Steady read left bytes (read left bytes)

abbrev pub same_place : {Y : Type 0} → Reader Y → Inner Y
same_place read left = read

abbrev pub IsSteady : {Y : Type 0} → Reader Y → Type 0
IsSteady read = IsSteadyInner (same_place read)

-- what was read is read again where the bytes go on
pub longer : (Y : Type 0) (read : Inner Y) (bytes : List ℕ) (y : Y × List ℕ) → Taken read bytes y → (left : ℕ) (more : List ℕ) → read left (bytes ++ more) ≡ Ok (y.0, y.1 ++ more)
longer Y read bytes y t left more =
    ap (λ (b : List ℕ). read left (b ++ more)) t.parts ∙ ap (read left) (append_assoc t.taken y.1 more) ∙ t.again left (y.1 ++ more)

abbrev onward : {X Y : Type 0} → (X → Inner Y) → ℕ → X × List ℕ → Reading Y
onward next left x = next x.0 left x.1

-- one reader, and one that may name the place of the first
abbrev after : {X Y : Type 0} → Reader X → (X → Inner Y) → Reader Y
after read next bytes = read bytes >>= onward next (length bytes)

after_steady : (X Y : Type 0) (read : Reader X) (next : X → Inner Y) → IsSteady read → ((x : X) → IsSteadyInner (next x)) → IsSteady (after read next)
after_steady X Y read next h k left bytes = first (read bytes) (h left bytes)
  where
    second : (x : X × List ℕ) → Taken (same_place read) bytes x → (r : Reading Y) → Steady (next x.0) (length bytes) x.1 r → Steady (same_place (after read next)) left bytes r
    second x t (Ok y) u =
        record {
          taken = t.taken ++ u.taken;
          parts = t.parts ∙ ap (λ (b : List ℕ). t.taken ++ b) u.parts ∙ sym (append_assoc t.taken u.taken y.1);
          again = λ n rest.
              ap (after read next) (append_assoc t.taken u.taken rest)
              ∙ ap (λ (r : Reading X). r >>= onward next (length (t.taken ++ (u.taken ++ rest)))) (t.again n (u.taken ++ rest))
              ∙ u.again (length (t.taken ++ (u.taken ++ rest))) rest;
        }
    second x t (Err e) u =
        record {
          no_rest = u.no_rest;
          stays = λ late more.
              ap (λ (r : Reading X). r >>= onward next (length (bytes ++ more))) (longer X (same_place read) bytes x t left more)
              ∙ ap (λ (n : ℕ). next x.0 n (x.1 ++ more)) (length-append bytes more)
              ∙ u.stays late more;
        }

    first : (r : Reading X) → Steady (same_place read) left bytes r → Steady (same_place (after read next)) left bytes (r >>= onward next (length bytes))
    first (Ok x) t = second x t (next x.0 (length bytes) x.1) (k x.0 (length bytes) x.1)
    first (Err e) t = record { no_rest = t.no_rest; stays = λ late more. ap (λ (r : Reading X). r >>= onward next (length (bytes ++ more))) (t.stays late more) }

choice_steady : (Y : Type 0) (b : Bool) (r s : Inner Y) → IsSteadyInner r → IsSteadyInner s → IsSteadyInner (λ left bytes. cond b (r left bytes) (s left bytes))
choice_steady Y true r s h k = h
choice_steady Y false r s h k = k

abbrev pure : {Y : Type 0} → Y → Reader Y
pure y bytes = Ok (y, bytes)

pure_steady : (Y : Type 0) (y : Y) → IsSteady (pure y)
pure_steady Y y left bytes = record { taken = []; parts = refl; again = λ n rest. refl }

abbrev refusing : {Y : Type 0} → WireWhy → Inner Y
refusing w left bytes = Err (left, w)

refusing_steady : (Y : Type 0) (w : WireWhy) → w ≢ why.Rest → IsSteadyInner {Y = Y} (refusing w)
refusing_steady Y w h left bytes = record { no_rest = h; stays = λ late more. refl }

bytes_steady : (n : ℕ) → IsSteady (bytes_at n)
bytes_steady n left bytes = by (ltb (length bytes) n) refl
  where
    by : (b : Bool) → ltb (length bytes) n ≡ b → Steady (same_place (bytes_at n)) left bytes (cond b (Err (length bytes, why.Short)) (Ok (take n bytes, drop n bytes)))
    by true h = record { no_rest = λ e. cc; stays = λ late more. absurd (late refl) }
    by false h =
        let long : length (take n bytes) ≡ n = omega (arith, length-take n bytes, ltb-false (length bytes) n h) in
        record { taken = take n bytes; parts = sym (take-append-drop n bytes); again = λ m rest. (bytes_codec n).again (take n bytes) rest long }

counted_steady : (X Y : Type 0) (read : Reader X) (next : X → Reader Y) → IsSteady read → ((x : X) → IsSteady (next x)) → IsSteady (counted read next)
counted_steady X Y read next h k = after_steady X Y read (λ x. same_place (next x)) h k

made_steady : (X Y : Type 0) (make : X → Y) (read : Reader X) → IsSteady read → IsSteady (made make read)
made_steady X Y make read h = counted_steady X Y read (λ x. pure (make x)) h (λ x. pure_steady Y (make x))

tested_steady : (X : Type 0) (read : Reader X) (test : X → Bool) (w : WireWhy) → w ≢ why.Rest → IsSteady read → IsSteady (tested read test w)
tested_steady X read test w other h =
    after_steady X X read (λ x left bytes. cond (test x) (pure x bytes) (refusing w left bytes)) h
    (λ x. choice_steady X (test x) (same_place (pure x)) (refusing w) (pure_steady X x) (refusing_steady X w other))

both_steady : (X Y : Type 0) (read : Reader X) (next : X → Reader Y) → IsSteady read → ((x : X) → IsSteady (next x)) → IsSteady (both_at read next)
both_steady X Y read next h k = counted_steady X (X × Y) read (λ x. made (λ y. (x, y)) (next x)) h (λ x. made_steady Y (X × Y) (λ y. (x, y)) (next x) (k x))

list_steady : (S X : Type 0) (read : S → Reader X) (next : S → X → S) → ((s : S) → IsSteady (read s)) → (n : ℕ) (s : S) → IsSteady (list_at read next n s)
unfolding list_at
list_steady S X read next h zero s = pure_steady (List X) []
list_steady S X read next h (suc n) s =
    counted_steady X (List X) (read s) (λ x. made (λ xs. x ∷ xs) (list_at read next n (next s x))) (h s)
    (λ x. made_steady (List X) (List X) (λ xs. x ∷ xs) (list_at read next n (next s x)) (list_steady S X read next h n (next s x)))

-- ---- the fields

not_magic : why.Magic ≢ why.Rest
not_magic e = cc

not_kind : why.Kind ≢ why.Rest
not_kind e = cc

not_order : why.Order ≢ why.Rest
not_order e = cc

not_text : why.Text ≢ why.Rest
not_text e = cc

not_range : why.Range ≢ why.Rest
not_range e = cc

number_steady : (w : Width) → IsSteady (number_at w)
number_steady w = made_steady (List ℕ) ℕ (from_be_bytes w) (bytes_at (byte_len w)) (bytes_steady (byte_len w))

ranged_steady : (w : Width) (least most : ℕ) → IsSteady (ranged_at w least most)
ranged_steady w least most = tested_steady ℕ (number_at w) (between least most) why.Range not_range (number_steady w)

kind_steady : (least most : ℕ) → IsSteady (kind_at least most)
kind_steady least most = tested_steady ℕ (number_at w8) (between least most) why.Kind not_kind (number_steady w8)

magic_steady : (b : ℕ) → IsSteady (magic_at b)
magic_steady b = tested_steady ℕ (number_at w8) (λ n. eqb n b) why.Magic not_magic (number_steady w8)

signed_steady : IsSteady signed_at
signed_steady = made_steady ℕ ℤ (cast_signed w64) (number_at w64) (number_steady w64)

text_steady : (room : ℕ) → IsSteady (text_at room)
unfolding text_at
text_steady room = counted_steady ℕ (List ℕ) (ranged_at w16 0 room) (λ n. tested (bytes_at n) is_utf8 why.Text) (ranged_steady w16 0 room) (λ n. tested_steady (List ℕ) (bytes_at n) is_utf8 why.Text not_text (bytes_steady n))

abbrev int_behind : ℕ → ℕ → Reader Part
int_behind pairs room = made (int_part pairs room) signed_at

abbrev text_behind : ℕ → ℕ → Reader Part
text_behind pairs room = made (text_part pairs room) (text_at room)

abbrev pair_or_none : ℕ → ℕ → ℕ → Inner Part
pair_or_none depth pairs room left bytes = cond (eqb pairs 0) (refusing why.Range left bytes) (pair_behind depth pairs room bytes)

abbrev text_or_pair : ℕ → ℕ → ℕ → ℕ → Inner Part
text_or_pair depth pairs room tag left bytes = cond (eqb tag 1) (text_behind pairs room bytes) (pair_or_none depth pairs room left bytes)

abbrev behind_tag : ℕ → ℕ → ℕ → ℕ → Inner Part
behind_tag depth pairs room tag left bytes = cond (eqb tag 0) (int_behind pairs room bytes) (text_or_pair depth pairs room tag left bytes)

part_steady : (depth pairs room : ℕ) → IsSteady (part_at depth pairs room)
unfolding part_at
part_steady zero pairs room = λ left bytes. record { no_rest = not_range; stays = λ late more. ap (λ (n : ℕ). refusing {Y = Part} why.Range n bytes) (length-append bytes more) }
part_steady (suc depth) pairs room =
    after_steady ℕ Part (kind_at 0 2) (behind_tag depth pairs room) (kind_steady 0 2)
    (λ tag. choice_steady Part (eqb tag 0) (same_place (int_behind pairs room)) (text_or_pair depth pairs room tag) (made_steady ℤ Part (int_part pairs room) signed_at signed_steady)
    (choice_steady Part (eqb tag 1) (same_place (text_behind pairs room)) (pair_or_none depth pairs room) (made_steady (List ℕ) Part (text_part pairs room) (text_at room) (text_steady room))
    (choice_steady Part (eqb pairs 0) (refusing why.Range) (same_place (pair_behind depth pairs room)) (refusing_steady Part why.Range not_range)
    (counted_steady Part Part (part_at depth (pairs - 1) room) (λ a. made (pair_part a.value) (part_at depth a.pairs a.room)) (part_steady depth (pairs - 1) room)
    (λ a. made_steady Part Part (pair_part a.value) (part_at depth a.pairs a.room) (part_steady depth a.pairs a.room))))))

value_steady : IsSteady value_at
unfolding value_at
value_steady = made_steady Part Val part_value (part_at 8 7 256) (part_steady 8 7 256)

token_steady : (nodes : ℕ) → IsSteady (token_at nodes)
unfolding token_at
token_steady nodes =
    made_steady (ℕ × (ℕ × ℕ)) (Tok × Bool) token_made (token_parts_at nodes)
    (both_steady ℕ (ℕ × ℕ) (ranged_at w8 0 (nodes - 1)) (λ _. both_at (ranged_at w64 1 100000) (λ _. kind_at 0 1)) (ranged_steady w8 0 (nodes - 1))
    (λ _. both_steady ℕ ℕ (ranged_at w64 1 100000) (λ _. kind_at 0 1) (ranged_steady w64 1 100000) (λ _. kind_steady 0 1)))

row_steady : (nodes : ℕ) → IsSteady (row_at nodes)
unfolding row_at
row_steady nodes = made_steady (Val × (Tok × Bool)) Row row_made (both_at value_at (λ _. token_at nodes)) (both_steady Val (Tok × Bool) value_at (λ _. token_at nodes) value_steady (λ _. token_steady nodes))

-- so many items, with their number before them
many_steady : (S X : Type 0) (w : Width) (least most : ℕ) (read : S → Reader X) (next : S → X → S) (s : S) → ((t : S) → IsSteady (read t)) → IsSteady (counted (ranged_at w least most) (λ n. list_at read next n s))
many_steady S X w least most read next s h = counted_steady ℕ (List X) (ranged_at w least most) (λ n. list_at read next n s) (ranged_steady w least most) (λ n. list_steady S X read next h n s)

single_rows_steady : (nodes : ℕ) → IsSteady (single_rows_at nodes)
unfolding single_rows_at
single_rows_steady nodes = many_steady (Option Row) Row w32 0 row_limit (row_after_at nodes) latest None (λ s. tested_steady Row (row_at nodes) (is_above row_cmp s) why.Order not_order (row_steady nodes))

value_after_steady : (s : Option Val) → IsSteady (value_after_at s)
value_after_steady s = tested_steady Val value_at (is_above val_cmp s) why.Order not_order value_steady

elements_steady : IsSteady elements_at
unfolding elements_at
elements_steady = many_steady (Option Val) Val w32 0 row_limit value_after_at latest None value_after_steady

tokens_steady : (nodes n : ℕ) → IsSteady (tokens_at nodes n)
unfolding tokens_at
tokens_steady nodes n = list_steady (Option (Tok × Bool)) (Tok × Bool) (token_after_at nodes) latest (λ s. tested_steady (Tok × Bool) (token_at nodes) (is_above mark_cmp s) why.Order not_order (token_steady nodes)) n None

group_steady : (nodes : ℕ) (before : Before) → IsSteady (group_at nodes before)
unfolding group_at
group_steady nodes before =
    made_steady (Val × List (Tok × Bool)) Group group_made (both_at (value_after_at before.0) (λ _. counted (ranged_at w32 1 (row_limit - before.1)) (tokens_at nodes)))
    (both_steady Val (List (Tok × Bool)) (value_after_at before.0) (λ _. counted (ranged_at w32 1 (row_limit - before.1)) (tokens_at nodes)) (value_after_steady before.0)
    (λ _. counted_steady ℕ (List (Tok × Bool)) (ranged_at w32 1 (row_limit - before.1)) (tokens_at nodes) (ranged_steady w32 1 (row_limit - before.1)) (tokens_steady nodes)))

grouped_rows_steady : (nodes : ℕ) → IsSteady (grouped_rows_at nodes)
unfolding grouped_rows_at groups_at
grouped_rows_steady nodes = made_steady (List Group) (List Row) rows_of (groups_at nodes) (many_steady Before Group w32 0 row_limit (group_at nodes) after_group (None, 0) (group_steady nodes))

rows_steady : (version nodes : ℕ) → IsSteady (rows_at version nodes)
rows_steady version nodes = elim (eqb version 1) as (λ b. IsSteady (cond b (single_rows_at nodes) (grouped_rows_at nodes))) [ true ↦ single_rows_steady nodes | false ↦ grouped_rows_steady nodes ]

numbers_steady : (most n : ℕ) → IsSteady (numbers_at most n)
unfolding numbers_at
numbers_steady most n = list_steady (Unit {0}) ℕ (limited_at most) nothing_more (λ _. ranged_steady w64 0 most) n tt

top_steady : IsSteady top_at
unfolding top_at
top_steady =
    counted_steady ℕ (Option ℤ) (kind_at 0 1) top_behind (kind_steady 0 1)
    (λ n. elim (eqb n 1) as (λ b. IsSteady (cond b (made some_number signed_at) (made no_number nothing_at))) [
      | true ↦ made_steady ℤ (Option ℤ) some_number signed_at signed_steady
      | false ↦ made_steady (Unit {0}) (Option ℤ) no_number nothing_at (pure_steady (Unit {0}) tt)
    ])

held_steady : (version nodes : ℕ) → IsSteady (held_at version nodes)
unfolding held_at
held_steady version nodes = counted_steady ℕ Held (kind_at 1 4) (held_behind version nodes) (kind_steady 1 4) behind
  where
    set : IsSteady (made held_set (rows_at version nodes))
    set = made_steady (List Row) Held held_set (rows_at version nodes) (rows_steady version nodes)

    grow : IsSteady (made held_elements elements_at)
    grow = made_steady (List Val) Held held_elements elements_at elements_steady

    counter : IsSteady (made held_counts (numbers_at count_max nodes))
    counter = made_steady (List ℕ) Held held_counts (numbers_at count_max nodes) (numbers_steady count_max nodes)

    register : IsSteady (made held_top top_at)
    register = made_steady (Option ℤ) Held held_top top_at top_steady

    either : (b : Bool) (r s : Reader Held) → IsSteady r → IsSteady s → IsSteady (cond b r s)
    either true r s h k = h
    either false r s h k = k

    behind : (k : ℕ) → IsSteady (held_behind version nodes k)
    behind k = either (eqb k 1) _ _ set (either (eqb k 2) _ _ grow (either (eqb k 3) _ _ counter register))

name_steady : IsSteady name_at
unfolding name_at
name_steady = counted_steady ℕ (List ℕ) (ranged_at w8 1 32) (λ n. tested (bytes_at n) is_name why.Text) (ranged_steady w8 1 32) (λ n. tested_steady (List ℕ) (bytes_at n) is_name why.Text not_text (bytes_steady n))

source_steady : (version nodes : ℕ) → IsSteady (source_at version nodes)
unfolding source_at
source_steady version nodes =
    made_steady (List ℕ × Held) Sent source_made (both_at name_at (λ _. held_at version nodes)) (both_steady (List ℕ) Held name_at (λ _. held_at version nodes) name_steady (λ _. held_steady version nodes))

sources_steady : (version nodes : ℕ) → IsSteady (sources_at version nodes)
unfolding sources_at
sources_steady version nodes = many_steady (Unit {0}) Sent w8 0 source_limit (any_source_at version nodes) nothing_of_sources tt (λ _. source_steady version nodes)

counts_steady : IsSteady counts_at
unfolding counts_at
counts_steady = counted_steady ℕ (List ℕ) nodes_at (numbers_at update_limit) (ranged_steady w8 1 8) (numbers_steady update_limit)

body_steady : (version : ℕ) → IsSteady (body_at version)
unfolding body_at
body_steady version =
    made_steady (List ℕ × List Sent) Message message_made (both_at counts_at (λ counts. sources_at version (length counts)))
    (both_steady (List ℕ) (List Sent) counts_at (λ counts. sources_at version (length counts)) counts_steady (λ counts. sources_steady version (length counts)))

version_steady : IsSteady version_at
unfolding version_at
version_steady =
    behind 76 _ (behind 65 _ (behind 83 _ (behind 80 (tested (number_at w8) is_version why.Magic) (tested_steady ℕ (number_at w8) is_version why.Magic not_magic (number_steady w8)))))
  where
    behind : (b : ℕ) (next : Reader ℕ) → IsSteady next → IsSteady (counted (magic_at b) (λ _. next))
    behind b next h = counted_steady ℕ ℕ (magic_at b) (λ _. next) (magic_steady b) (λ _. h)

pub message_steady : IsSteady message_at
unfolding message_at
message_steady = both_steady ℕ Message version_at body_at version_steady body_steady
