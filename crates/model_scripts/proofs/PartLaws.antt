-- What the parts of a word that pass their checks stand for is in range.
use Rattle.std.proofs.Common.{refl, arith}
use Rattle.std.specs.Prelude.{◌≡◌, ℕ, pos, ◌^◌, ◌<◌, ◌≤◌, ◌&&◌, List, [], ◌∷◌, length, map, Bool, true, false, nat_lt, nat_le, if◌then◌else◌, Option, Some, None, is_some, option_map, option_and_then, unwrap_or, Result, Ok, Err, is_ok, ok_or, FitsSigned}
use Rattle.std.specs.Result.{result_unwrap_or}
use Rattle.std.specs.List.{position, list_all}
use Rattle.std.specs.Str.{bytes_eq}
use mir.Syntax.{w64}
use Rattle.std.proofs.lemmas.Bool.{ltb-true, leb-true, and_parts}
use Rattle.std.proofs.lemmas.List.Quantifiers.{position-Some}
use Rattle.serde_json.specs.Data.{Num, unsigned, negative, float, Data, null, boolean, number, string, array, object, Items, no_items, item}
use Rattle.serde_json.specs.Find.{as_u64, as_i64}
use Rattle.model_values.specs.Value.{Val, int}
use Rattle.model_values.specs.Size.{leaves, text_bytes, IsOfWidth, HasSmallInts}
use Rattle.model_values.specs.Json.{paired, written_value, written_pair, is_source_value, if_source_value, read_value}
use Rattle.model_values.specs.declared.value_why.ValueWhy.{ValueWhy}
use Rattle.model_values.specs.declared.value_why.ValueWhy.TheVariants as value_why
use Rattle.model_graph.specs.Graph.{Decl}
use Rattle.model_readings.specs.Graph.{place_of}
use Rattle.model_readings.proofs.Names.{found_within}
use Rattle.model_world.specs.Lawful.{IsSourceValue, AreSourceValues}
use Rattle.model_scripts.specs.Progress.{mark_of}
use Rattle.model_scripts.specs.Parts.{below, in_steps, step_limit, number_below, step_of, value_of}
use Rattle.model_scripts.specs.Check.{is_value}
use Rattle.model_scripts.proofs.Small.{IsSmallNumber, IsSmall, AreSmallItems, AreSmall}

-- ---- numbers

index-test : (limit k : ℕ) (b : Bool) → nat_lt k limit ≡ b → is_some (if b then Some k else None) ≡ true → unwrap_or (if b then Some k else None) 0 < limit
index-test limit k true e some = ltb-true k limit e
index-test limit k false e some = absurd cc

index-step : (limit : ℕ) (o : Option ℕ) → is_some (option_and_then (below limit) o) ≡ true → unwrap_or (option_and_then (below limit) o) 0 < limit
index-step limit None some = absurd cc
index-step limit (Some k) some = index-test limit k (nat_lt k limit) refl some

pub index-within : (limit : ℕ) (n : Num) → is_some (number_below limit n) ≡ true → unwrap_or (number_below limit n) 0 < limit
unfolding number_below
index-within limit n some = index-step limit (as_u64 n) some

abbrev IsInSteps : ℕ → Type 0
IsInSteps k = (1 ≤ k) × (k ≤ step_limit)

step-test : (k : ℕ) (a b : Bool) → nat_le 1 k ≡ a → nat_le k step_limit ≡ b → is_some (if a && b then Some k else None) ≡ true → IsInSteps (unwrap_or (if a && b then Some k else None) 0)
step-test k true true e f some = (leb-true 1 k e, leb-true k step_limit f)
step-test k true false e f some = absurd cc
step-test k false b e f some = absurd cc

step-step : (o : Option ℕ) → is_some (option_and_then in_steps o) ≡ true → IsInSteps (unwrap_or (option_and_then in_steps o) 0)
step-step None some = absurd cc
step-step (Some k) some = step-test k (nat_le 1 k) (nat_le k step_limit) refl refl some

pub step-within : (n : Num) → is_some (step_of n) ≡ true → IsInSteps (unwrap_or (step_of n) 0)
unfolding step_of
step-within n some = step-step (as_u64 n) some

pub count-within : (n : Num) → IsSmallNumber n → is_some (as_u64 n) ≡ true → unwrap_or (as_u64 n) 0 < 2 ^ 64
count-within (unsigned n) h some = h
count-within (negative z) h some = absurd cc
count-within (float x) h some = absurd cc

top-test : (n : ℕ) (b : Bool) → nat_lt n (2 ^ 63) ≡ b → is_some (if b then Some (pos n) else None) ≡ true → FitsSigned w64 (unwrap_or (if b then Some (pos n) else None) (pos 0))
top-test n true e some = let small = ltb-true n (2 ^ 63) e in record { sfits = omega (arith, small) }
top-test n false e some = absurd cc

pub top-within : (n : Num) → IsSmallNumber n → is_some (as_i64 n) ≡ true → FitsSigned w64 (unwrap_or (as_i64 n) (pos 0))
top-within (unsigned n) h some = top-test n (nat_lt n (2 ^ 63)) refl some
top-within (negative z) h some = h
top-within (float x) h some = absurd cc

-- ---- names

place-step : (g : List Decl) (x : List ℕ) (o : Option ℕ) → place_of x g ≡ o → is_some o ≡ true → unwrap_or o 0 < length g
place-step g x None e some = absurd cc
place-step g x (Some i) e some = found_within x g i e

pub place-within : (g : List Decl) (x : List ℕ) → is_some (place_of x g) ≡ true → unwrap_or (place_of x g) 0 < length g
place-within g x some = place-step g x (place_of x g) refl some

mark-step : (names : List (List ℕ)) (m : List ℕ) (o : Option ℕ) → position (λ n. bytes_eq m n) names ≡ o → is_some o ≡ true → unwrap_or o 0 < length names
mark-step names m None e some = absurd cc
mark-step names m (Some i) e some = (position-Some (λ (n : List ℕ). bytes_eq m n) names i [] e).0

pub mark-within : (names : List (List ℕ)) (m : List ℕ) → is_some (mark_of m names) ≡ true → unwrap_or (mark_of m names) 0 < length names
unfolding mark_of
mark-within names m some = mark-step names m (position (λ n. bytes_eq m n) names) refl some

-- ---- values

-- the value, if there is one, has numbers of 64 bits
abbrev Gives64 : Result Val ValueWhy → Type 0
Gives64 (Ok v) = HasSmallInts v
Gives64 (Err e) = Unit {0}

whole-64 : (n : ℕ) (b : Bool) → nat_lt n (2 ^ 63) ≡ b → Gives64 (ok_or (option_map int (if b then Some (pos n) else None)) value_why.NumberRefused)
whole-64 n true e = let small = ltb-true n (2 ^ 63) e in record { sfits = omega (arith, small) }
whole-64 n false e = tt

number-64 : (n : Num) → IsSmallNumber n → Gives64 (ok_or (option_map int (as_i64 n)) value_why.NumberRefused)
number-64 (unsigned n) h = whole-64 n (nat_lt n (2 ^ 63)) refl
number-64 (negative z) h = h
number-64 (float x) h = tt

paired-64 : (r s : Result Val ValueWhy) → Gives64 r → Gives64 s → Gives64 (paired r s)
paired-64 (Ok a) (Ok b) h k = (h, k)
paired-64 (Ok a) (Err e) h k = tt
paired-64 (Err e) s h k = tt

mutual
  value-64 : (d : Data) → IsSmall d → Gives64 (written_value d)
  value-64 null h = tt
  value-64 (boolean b) h = tt
  value-64 (number n) h = number-64 n h
  value-64 (string s) h = tt
  value-64 (array ds) h = pair-64 ds h
  value-64 (object ms) h = tt

  pair-64 : (ds : Items) → AreSmallItems ds → Gives64 (written_pair ds)
  pair-64 no_items h = tt
  pair-64 (item a no_items) h = tt
  pair-64 (item a (item b no_items)) h = paired-64 (written_value a) (written_value b) (value-64 a h.0) (value-64 b h.1.0)
  pair-64 (item a (item b (item c ds))) h = tt

width-tests : (v : Val) (a b : Bool) → nat_le (leaves v) 8 ≡ a → nat_le (text_bytes v) 256 ≡ b → (a && b) ≡ true → IsOfWidth 1 v
width-tests v true true e f h = record { leaves = leb-true _ _ e; bytes = leb-true _ _ f }
width-tests v true false e f h = absurd cc
width-tests v false b e f h = absurd cc

-- a value that passes the test of its size
abbrev sized : Val → Bool → Result Val ValueWhy
sized v b = if b then Ok v else Err value_why.TooBig

source-test : (v : Val) (b : Bool) → is_source_value v ≡ b → HasSmallInts v → is_ok (sized v b) ≡ true
    → IsSourceValue (result_unwrap_or (sized v b) (int (pos 0)))
source-test v true e h some = (width-tests v _ _ refl refl e, h)
source-test v false e h some = absurd cc

source-step : (r : Result Val ValueWhy) → Gives64 r → is_ok (if_source_value r) ≡ true → IsSourceValue (result_unwrap_or (if_source_value r) (int (pos 0)))
source-step (Ok v) h some = source-test v (is_source_value v) refl h some
source-step (Err e) h some = absurd cc

pub value-within : (d : Data) → IsSmall d → is_value d ≡ true → IsSourceValue (value_of d)
unfolding read_value
value-within d h some = source-step (written_value d) (value-64 d h) some

pub values-within : (ds : List Data) → AreSmall ds → list_all is_value ds ≡ true → AreSourceValues (map value_of ds)
values-within [] h some = tt
values-within (d ∷ ds) h some = let both = and_parts (is_value d) (list_all is_value ds) some in (value-within d h.0 both.0, values-within ds h.1 both.1)
