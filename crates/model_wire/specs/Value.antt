-- Values, tokens and rows from bytes.
use Rattle.std.specs.Prelude.{ℕ, zero, suc, ℤ, ◌-◌, ◌==◌, Bool, true, if◌then◌else◌, List, length, Option, Some, None, Err}
use Rattle.std.specs.Int.{cast_signed, w8, w16, w64}
use Rattle.std.specs.Str.{is_utf8}
use Rattle.std.specs.Ordering.{is_lt}
use Rattle.std.specs.declared.cmp.Ordering.{Ordering}
use Rattle.model_values.specs.Value.{Val, int, text, pair}
use Rattle.model_values.specs.Token.{Tok, single, tok_cmp}
use Rattle.model_values.specs.Row.{Row}
use Rattle.model_graph.specs.Chain.{◌>>=◌}
use Rattle.model_wire.specs.declared.wire_why.WireWhy.TheVariants as why
use Rattle.model_wire.specs.Reader.{Reader, bytes_at, tested, both_at, counted, made, number_at, ranged_at, kind_at}

-- a number with a sign, of 8 bytes in two's complement
abbrev pub signed_at : Reader ℤ
signed_at = made (cast_signed w64) (number_at w64)

-- a text of at most so many bytes, with its length before it
unfoldable pub text_at : ℕ → Reader (List ℕ)
text_at room = counted (ranged_at w16 0 room) (λ n. tested (bytes_at n) is_utf8 why.Text)

-- a value that was read, and how many pairs and how many bytes of text may still stand in the whole
pub record Part : Type 0 where
  pub value : Val
  pub pairs : ℕ
  pub room : ℕ

abbrev pub part : Val → ℕ → ℕ → Part
part v pairs room = record { value = v; pairs = pairs; room = room }

abbrev pub int_part : ℕ → ℕ → ℤ → Part
int_part pairs room n = part (int n) pairs room

abbrev pub text_part : ℕ → ℕ → List ℕ → Part
text_part pairs room t = part (text t) pairs (room - length t)

abbrev pub pair_part : Val → Part → Part
pair_part v p = part (pair v p.value) p.pairs p.room

-- a value in which so many pairs and so many bytes of text may stand; depth is more than the pairs
unfoldable pub part_at : ℕ → ℕ → ℕ → Reader Part
part_at zero pairs room bytes = Err (length bytes, why.Range)
part_at (suc depth) pairs room bytes = do
  tag ← kind_at 0 2 bytes
  if tag.0 == 0 then made (int_part pairs room) signed_at tag.1
      else (if tag.0 == 1 then made (text_part pairs room) (text_at room) tag.1
      else (if pairs == 0 then Err (length bytes, why.Range)
      else counted (part_at depth (pairs - 1) room) (λ a. made (pair_part a.value) (part_at depth a.pairs a.room)) tag.1))

abbrev pub part_value : Part → Val
part_value p = p.value

-- a source's value: at most 7 pairs and 256 bytes of text
unfoldable pub value_at : Reader Val
value_at = made part_value (part_at 8 7 256)

-- a replica below the nodes, the number of its update, and whether the token is dead
abbrev pub token_parts_at : ℕ → Reader (ℕ × (ℕ × ℕ))
token_parts_at nodes = both_at (ranged_at w8 0 (nodes - 1)) (λ _. both_at (ranged_at w64 1 100000) (λ _. kind_at 0 1))

abbrev pub token_made : ℕ × (ℕ × ℕ) → Tok × Bool
token_made p = (single p.0 p.1.0, p.1.1 == 1)

unfoldable pub token_at : ℕ → Reader (Tok × Bool)
token_at nodes = made token_made (token_parts_at nodes)

abbrev pub row_made : Val × (Tok × Bool) → Row
row_made p = ((p.0, p.1.0), p.1.1)

unfoldable pub row_at : ℕ → Reader Row
row_at nodes = made row_made (both_at value_at (λ _. token_at nodes))

-- what stands before it, if anything, is below it
abbrev pub is_above : {X : Type 0} → (X → X → Ordering) → Option X → X → Bool
is_above cmp None x = true
is_above cmp (Some y) x = is_lt (cmp y x)

-- the order of tokens, whether dead or not
abbrev pub mark_cmp : Tok × Bool → Tok × Bool → Ordering
mark_cmp s t = tok_cmp s.0 t.0

-- the item itself becomes what is known of those before the next
abbrev pub latest : {X : Type 0} → Option X → X → Option X
latest before x = Some x
