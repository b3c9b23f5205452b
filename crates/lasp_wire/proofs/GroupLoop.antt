-- Groups read one after the other, and their rows put behind those before.
use Rattle.std.proofs.Common.{◌≡◌, ℕ, suc, ◌-◌, ◌+◌, ◌≤◌, ◌<◌, Bool, List, [], ◌∷◌, ◌++◌, length, map, Option, Some, Ok, Err, refl, sym, ap, subst, ◌∙◌, append_assoc, arith}
use Rattle.std.specs.Option.{option_map}
use Rattle.std.proofs.lemmas.List.{append-nil, length-map, length-append}
use Rattle.model_values.specs.Value.{Val}
use Rattle.model_values.specs.Token.{Tok}
use Rattle.model_values.specs.Row.{Row}
use Rattle.model_graph.specs.Spelling.{Group}
use Rattle.model_graph.specs.Chain.{◌>>=◌}
use Rattle.model_wire.specs.Reader.{Reading, onto, list_at}
use Rattle.model_wire.specs.Message.{Before, row_of, rows_of_group, rows_of, after_group, group_at}
use Rattle.lasp_wire.specs.declared.refused.ReadError.{ReadError}
use Rattle.lasp_wire.specs.declared.refused.ReadError.TheVariants as error
use Rattle.lasp_wire.specs.Read.{Fails, last_value_of, before_of}
use Rattle.lasp_wire.proofs.Loop.{last_pushed}

-- the rows before, and those of the groups behind them
abbrev pub rows_behind : List Row → List Group × List ℕ → Reading (List Row)
rows_behind front x = Ok (front ++ rows_of x.0, x.1)

abbrev pub with_rows : List Row → Reading (List Group) → Reading (List Row)
with_rows front r = r >>= rows_behind front

regroup : (front : List Row) (g : Group) (r : Reading (List Group)) → with_rows front (r >>= onto g) ≡ with_rows (front ++ rows_of_group g) r
regroup front g (Ok y) = ap (λ (xs : List Row). Ok (xs, y.1)) (simp append_assoc)
regroup front g (Err e) = refl

abbrev value_in : Row → Val
value_in r = r.0.0

last_of_rows : (front : List Row) (v : Val) (t : Tok × Bool) (ts : List (Tok × Bool)) → last_value_of (front ++ map (row_of v) (t ∷ ts)) ≡ Some v
last_of_rows front v t [] = ap (λ (o : Option Row). option_map value_in o) (last_pushed Row front (row_of v t))
last_of_rows front v t (u ∷ ts) =
    let e : front ++ map (row_of v) (t ∷ u ∷ ts) ≡ (front ++ row_of v t ∷ []) ++ map (row_of v) (u ∷ ts) = simp append_assoc in
    ap (λ (rs : List Row). last_value_of rs) e ∙ last_of_rows (front ++ row_of v t ∷ []) v u ts

pub longer : (front : List Row) (g : Group) → length (front ++ rows_of_group g) ≡ length front + length g.tokens
longer front g = length-append front (rows_of_group g) ∙ ap (λ (n : ℕ). length front + n) (length-map g.tokens (row_of g.value))

-- what is known before the next value is told by the rows themselves
told : (front : List Row) (v : Val) (ts : List (Tok × Bool)) → 0 < length ts → before_of (front ++ map (row_of v) ts) ≡ (Some v, length front + length ts)
told front v [] h = absurd (omega (arith, h))
told front v (t ∷ ts) h = λ i. (last_of_rows front v t ts i, longer front (record { value = v; tokens = t ∷ ts }) i)

abbrev Groups : ℕ → ℕ → Before → List ℕ → Reading (List Group)
Groups nodes n before bytes = list_at (group_at nodes) after_group n before bytes

pub goes_on_groups : (nodes : ℕ) (front : List Row) (count i : ℕ) (bytes : List ℕ) (g : Group) (after : List ℕ) (total : Reading (List Row)) → i < count → 0 < length g.tokens
    → group_at nodes (before_of front) bytes ≡ Ok (g, after) → with_rows front (Groups nodes (count - i) (before_of front) bytes) ≡ total
    → with_rows (front ++ rows_of_group g) (Groups nodes (count - (i + 1)) (before_of (front ++ rows_of_group g)) after) ≡ total
unfolding list_at
goes_on_groups nodes front count i bytes g after total lt some h so_far =
    let k : count - i ≡ suc (count - (i + 1)) = omega (arith, lt) in
    let one : with_rows front (Groups nodes (count - i) (before_of front) bytes) ≡ with_rows (front ++ rows_of_group g) (Groups nodes (count - (i + 1)) (after_group (before_of front) g) after) =
    rw (k, h) (regroup front g (Groups nodes (count - (i + 1)) (after_group (before_of front) g) after)) in
    subst (λ (b : Before). with_rows (front ++ rows_of_group g) (Groups nodes (count - (i + 1)) b after) ≡ total) (sym (told front g.value g.tokens some)) (sym one ∙ so_far)

pub ends_groups : (e : ReadError) (nodes : ℕ) (front : List Row) (count i : ℕ) (bytes : List ℕ) (total : Reading (List Row)) → i < count → Fails e (group_at nodes (before_of front) bytes)
    → with_rows front (Groups nodes (count - i) (before_of front) bytes) ≡ total → Fails e total
unfolding list_at
ends_groups error.Memory nodes front count i bytes total lt h so_far = tt
ends_groups (error.At left why) nodes front count i bytes total lt h so_far =
    let k : count - i ≡ suc (count - (i + 1)) = omega (arith, lt) in
    let one : with_rows front (Groups nodes (count - i) (before_of front) bytes) ≡ Err (left, why) = rw (k, h) refl in
    sym so_far ∙ one

pub is_done_groups : (nodes : ℕ) (front : List Row) (count i : ℕ) (bytes : List ℕ) (total : Reading (List Row)) → count ≤ i
    → with_rows front (Groups nodes (count - i) (before_of front) bytes) ≡ total → total ≡ Ok (front, bytes)
unfolding list_at
is_done_groups nodes front count i bytes total le so_far =
    let k : count - i ≡ 0 = omega (arith, le) in
    let one : with_rows front (Groups nodes (count - i) (before_of front) bytes) ≡ Ok (front, bytes) = rw k (ap (λ (xs : List Row). Ok (xs, bytes)) (append-nil front)) in
    sym so_far ∙ one
