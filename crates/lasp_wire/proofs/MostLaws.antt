-- What states keep of the bytes that they have is at least what their spellings have.
use Rattle.std.proofs.Common.{◌≡◌, ℕ, ◌+◌, ◌*◌, ◌≤◌, ◌<◌, Bool, true, false, if◌then◌else◌, List, [], ◌∷◌, ◌++◌, length, map, take, get_or, Option, Some, None, sym, ap, ◌∙◌, append-nil, arith}
use Rattle.std.specs.List.{flat_map}
use Rattle.std.proofs.lemmas.List.{length-append, map-append, take_more}
use Rattle.std.proofs.lemmas.Grind.{flat_map-append}
use Rattle.model_values.specs.Value.{Val, int, text, pair}
use Rattle.model_values.specs.Token.{Tok, single, both}
use Rattle.model_values.specs.Row.{Row}
use Rattle.model_graph.specs.Message.{Sent, Message}
use Rattle.model_graph.specs.Spelling.{spelled_value, spelled_token, spelled_rows, spelled_values, spelled_source, spelled}
use Rattle.model_wire.specs.Lawful.{IsMessage}
use Rattle.lasp_logset.specs.Weights.{IsBounded, val_weight, tok_weight, rows_weight, values_weight}
use Rattle.lasp_wire.specs.Written.{is_first}
use Rattle.lasp_wire.specs.Length.{rows_len}
use Rattle.lasp_wire.proofs.Lengths.{spelled_rows_len, spelled_len, sources_fit_in}

value_is : (v : Val) → length (spelled_value v) ≡ val_weight v
value_is (int n) = omega arith
value_is (text t) = omega arith
value_is (pair a b) = omega (arith, value_is a, value_is b, length-append (spelled_value a) (spelled_value b))

token_is : (t : Tok) → length (spelled_token t) ≡ tok_weight t
token_is (single q k) = omega arith
token_is (both t s) = omega (arith, token_is t, token_is s, length-append (spelled_token t) (spelled_token s))

head_most : (first : Bool) (value : ℕ) → (if first then value + 4 else 0) ≤ value + 4
head_most true value = omega arith
head_most false value = omega arith

rows_most : (before : Option Val) (rows : List Row) → rows_len before rows ≤ rows_weight rows
rows_most before [] = omega arith
rows_most before (r ∷ rows) = omega (arith, head_most (is_first before r) (length (spelled_value r.0.0)), value_is r.0.0, token_is r.0.1, rows_most (Some r.0.0) rows)

values_are : (values : List Val) → length (flat_map spelled_value values) ≡ values_weight values
values_are [] = omega arith
values_are (v ∷ values) = omega (arith, value_is v, values_are values, length-append (spelled_value v) (flat_map spelled_value values))

-- the kind has a byte, and the number of values four
pub set_most : (rows : List Row) (weight len : ℕ) → IsBounded (rows_weight rows) weight → IsBounded (weight + 5) len → IsBounded (length (1 ∷ spelled_rows rows)) len
set_most rows weight len h k = omega (arith, spelled_rows_len rows, rows_most None rows, h, k)

pub grow_most : (values : List Val) (weight len : ℕ) → IsBounded (values_weight values) weight → IsBounded (weight + 5) len → IsBounded (length (2 ∷ spelled_values values)) len
grow_most values weight len h k = omega (arith, values_are values, h, k)

pub whole_most : (m : Message) (sources len : ℕ) → IsMessage m → IsBounded (length (flat_map spelled_source m.sources)) sources → IsBounded (sources + (7 + 8 * length m.counts)) len → length (spelled m) ≤ len
whole_most m sources len lawful h k = omega (arith, spelled_len m, sources_fit_in m lawful, lawful.nodes.few, h, k)

-- a source more
pub next_most : {A : Type 0} (f : A → Sent) (xs : List A) (i : ℕ) (x : A) (known more sum : ℕ) → i < length xs → x ≡ get_or xs i x → IsBounded (length (flat_map spelled_source (map f (take i xs)))) known → IsBounded (length (spelled_source (f x))) more
    → IsBounded (known + more) sum → IsBounded (length (flat_map spelled_source (map f (take (i + 1) xs)))) sum
next_most f xs i x known more sum h is k m s =
    let pushed : take (i + 1) xs ≡ take i xs ++ x ∷ [] = take_more xs i x h ∙ ap (λ y. take i xs ++ y ∷ []) (sym is) in
    let sent : map f (take (i + 1) xs) ≡ map f (take i xs) ++ f x ∷ [] = ap (map f) pushed ∙ map-append f (take i xs) (x ∷ []) in
    let bytes : flat_map spelled_source (map f (take (i + 1) xs)) ≡ flat_map spelled_source (map f (take i xs)) ++ flat_map spelled_source (f x ∷ []) =
    ap (flat_map spelled_source) sent ∙ flat_map-append spelled_source (map f (take i xs)) (f x ∷ []) in
    omega (
      arith,
      ap (λ (l : List ℕ). length l) bytes,
      length-append (flat_map spelled_source (map f (take i xs))) (flat_map spelled_source (f x ∷ [])),
      ap (λ (l : List ℕ). length l) (append-nil (spelled_source (f x))),
      k,
      m,
      s,
    )
