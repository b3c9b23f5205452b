-- How many bytes spellings have.
use Rattle.std.proofs.Common.{◌≡◌, ℕ, suc, ◌+◌, ◌*◌, ◌≤◌, ◌^◌, Bool, true, false, if◌then◌else◌, List, [], ◌∷◌, ◌++◌, length, Option, Some, None, ℤ, refl, sym, ap, arith}
use Rattle.std.specs.List.{flat_map, AllByRecursion}
use Rattle.std.proofs.lemmas.List.{length-append}
use Rattle.model_values.specs.Value.{Val, int, text, pair}
use Rattle.model_values.specs.Size.{leaves, text_bytes}
use Rattle.model_values.specs.Token.{Tok, single, both}
use Rattle.model_values.specs.Row.{Row}
use Rattle.model_states.specs.Content.{Content}
use Rattle.model_graph.specs.Graph.{Kind, OrSet, GSet, Counter, MaxReg, Union, Product, Intersection, Map, Filter, Fold}
use Rattle.model_graph.specs.Message.{Sent, Message}
use Rattle.model_graph.specs.Spelling.{number, truth, spelled_value, spelled_token, spelled_rows, spelled_top, spelled_content, spelled_source, spelled}
use Rattle.model_wire.specs.Lawful.{IsSourceValue, IsBase, IsRow, IsSource, IsSent, IsMessage}
use Rattle.lasp_wire.specs.Written.{spelled_mark, run, is_first, spelled_head, spelled_after}
use Rattle.lasp_wire.specs.Length.{rows_len}
use Rattle.lasp_wire.proofs.Short.{short_name}
use Rattle.lasp_wire.proofs.WrittenRows.{written_rows}

-- ---- lists of spellings

-- each number has 8 bytes
pub numbers_len : (counts : List ℕ) → length (flat_map (number 8) counts) ≡ 8 * length counts
numbers_len [] = refl
numbers_len (c ∷ counts) = let e = numbers_len counts in omega (arith, e)

-- ---- rows

head_is : (first : Bool) (value : List ℕ) (n : ℕ) → (if first then length value + 4 else 0) ≡ length (if first then value ++ number 4 n else [])
head_is true value n = sym (length-append value (number 4 n))
head_is false value n = refl

truth_len : (b : Bool) → length (truth b) ≡ 1
truth_len true = refl
truth_len false = refl

rows_are : (before : Option Val) (rows : List Row) → rows_len before rows ≡ length (spelled_after before rows)
rows_are before [] = refl
rows_are before (r ∷ rows) =
    omega (
      arith,
      head_is (is_first before r) (spelled_value r.0.0) (suc (run r.0.0 rows)),
      truth_len r.1,
      rows_are (Some r.0.0) rows,
      length-append (spelled_token r.0.1) (truth r.1),
      length-append (spelled_head before r rows) (spelled_mark r),
      length-append (spelled_head before r rows ++ spelled_mark r) (spelled_after (Some r.0.0) rows),
    )

-- the number of values has 4 bytes
pub spelled_rows_len : (rows : List Row) → 4 + rows_len None rows ≡ length (spelled_rows rows)
spelled_rows_len rows = omega (arith, rows_are None rows, ap (λ (bytes : List ℕ). length bytes) (written_rows rows))

-- ---- what is in the ranges of the format is not too long to be counted

value_fits : (v : Val) → length (spelled_value v) + 1 ≤ 10 * leaves v + text_bytes v
value_fits (int n) = omega arith
value_fits (text t) = omega arith
value_fits (pair a b) = omega (arith, value_fits a, value_fits b, length-append (spelled_value a) (spelled_value b))

source_value : (v : Val) → IsSourceValue v → length (spelled_value v) ≤ 335
source_value v h = omega (arith, value_fits v, h.size.leaves, h.size.bytes)

token_fits : (nodes : ℕ) (t : Tok) → IsBase nodes t → length (spelled_token t) ≤ 9
token_fits nodes (single q k) h = omega arith
token_fits nodes (both t s) h = absurd h

head_fits : (first : Bool) (value : ℕ) → value ≤ 335 → (if first then value + 4 else 0) ≤ 339
head_fits true value h = omega (arith, h)
head_fits false value h = omega arith

rows_fit : (nodes : ℕ) (before : Option Val) (rows : List Row) → AllByRecursion (IsRow nodes) rows → rows_len before rows ≤ 349 * length rows
rows_fit nodes before [] h = omega arith
rows_fit nodes before (r ∷ rows) h =
    omega (arith, head_fits (is_first before r) (length (spelled_value r.0.0)) (source_value r.0.0 h.0.0), token_fits nodes r.0.1 h.0.1, rows_fit nodes (Some r.0.0) rows h.1)

values_fit : (values : List Val) → AllByRecursion IsSourceValue values → length (flat_map spelled_value values) ≤ 335 * length values
values_fit [] h = omega arith
values_fit (v ∷ values) h = omega (arith, source_value v h.0, values_fit values h.1, length-append (spelled_value v) (flat_map spelled_value values))

top_fits : (top : Option ℤ) → length (spelled_top top) ≤ 9
top_fits None = omega arith
top_fits (Some n) = omega arith

content_fits : (nodes : ℕ) (k : Kind) (s : Content) → nodes ≤ 8 → IsSource nodes k s → length (spelled_content k s) ≤ 23000000
content_fits nodes OrSet s few h = omega (arith, spelled_rows_len s.rows, rows_fit nodes None s.rows h.0.each, h.0.few)
content_fits nodes GSet s few h = omega (arith, values_fit s.values h.0.each, h.0.few)
content_fits nodes Counter s few h = omega (arith, numbers_len s.counts, h.0.0, few)
content_fits nodes MaxReg s few h = omega (arith, top_fits s.top)
content_fits nodes (Union x y) s few h = absurd h
content_fits nodes (Product x y) s few h = absurd h
content_fits nodes (Intersection x y) s few h = absurd h
content_fits nodes (Map x place ops) s few h = absurd h
content_fits nodes (Filter x place ops) s few h = absurd h
content_fits nodes (Fold x op place lift) s few h = absurd h

source_fits : (nodes : ℕ) (s : Sent) → nodes ≤ 8 → IsSent nodes s → length (spelled_source s) ≤ 23000033
source_fits nodes s few h =
    omega (arith, content_fits nodes s.decl.kind s.content few h.1, short_name s.decl.name h.0, length-append s.decl.name (spelled_content s.decl.kind s.content))

sources_fit : (nodes : ℕ) (sources : List Sent) → nodes ≤ 8 → AllByRecursion (IsSent nodes) sources → length (flat_map spelled_source sources) ≤ 23000033 * length sources
sources_fit nodes [] few h = omega arith
sources_fit nodes (s ∷ sources) few h = omega (arith, source_fits nodes s few h.0, sources_fit nodes sources few h.1, length-append (spelled_source s) (flat_map spelled_source sources))

pub sources_fit_in : (m : Message) → IsMessage m → length (flat_map spelled_source m.sources) ≤ 2 ^ 32
sources_fit_in m h = omega (arith, sources_fit (length m.counts) m.sources h.nodes.few h.sources, h.few)

-- ---- the whole

pub spelled_len : (m : Message) → 7 + 8 * length m.counts + length (flat_map spelled_source m.sources) ≡ length (spelled m)
unfolding spelled
spelled_len m =
    omega (
      arith,
      numbers_len m.counts,
      length-append (flat_map (number 8) m.counts) (number 1 (length m.sources)),
      length-append (flat_map (number 8) m.counts ++ number 1 (length m.sources)) (flat_map spelled_source m.sources),
    )
