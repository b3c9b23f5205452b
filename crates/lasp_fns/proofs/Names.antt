-- What look-ups in a map find is what stands under the name.
use Rattle.std.proofs.Common.{◌≡◌, ◌∙◌, sym, ap, refl, ℕ, ◌+◌, List, [], ◌∷◌, ◌++◌, map, length, Bool, true, false, not, cond, ◌||◌, Option, Some, None, is_some, nat_lt, String, string_bytes}
use Rattle.std.specs.List.{position, position_or_len}
use Rattle.std.specs.Map.{keys_of, lookup}
use Rattle.std.specs.Str.{bytes_eq}
use Rattle.std.specs.String.{string_eq}
use Rattle.std.specs.declared.alloc.Global.{Global}
use Rattle.std.proofs.lemmas.List.{length-map}
use Rattle.indexmap.specs.IndexMap.{insert_entry}
use Rattle.lasp_fns.specs.Named.{is_named, place_named}

-- entries with their names as bytes
abbrev pub with_bytes : {F : Type 0} → List (String Global × F) → List (List ℕ × F)
with_bytes es = map (λ e. (string_bytes e.0, e.1)) es

pub length-with_bytes : {F : Type 0} (es : List (String Global × F)) → length (with_bytes es) ≡ length es
length-with_bytes {F} es = length-map {B = List ℕ × F} es (λ e. (string_bytes e.0, e.1))

pub lookup-named : {F : Type 0} (name : List ℕ) (es : List (String Global × F)) → is_some (lookup (λ k. bytes_eq name (string_bytes k)) es) ≡ is_named name (with_bytes es)
lookup-named name [] = refl
lookup-named name (e ∷ es) = by (bytes_eq name (string_bytes e.0)) (lookup-named name es) where
  by : (b : Bool) → is_some (lookup (λ k. bytes_eq name (string_bytes k)) es) ≡ is_named name (with_bytes es) → is_some (cond b (Some e.1) (lookup (λ k. bytes_eq name (string_bytes k)) es)) ≡ (b || is_named name (with_bytes es))
  by true rest = refl
  by false rest = rest

first-named : {F : Type 0} (name : List ℕ) (es : List (String Global × F)) → position_or_len (λ k. bytes_eq name (string_bytes k)) (keys_of es) ≡ position_or_len (λ f. bytes_eq name f.0) (with_bytes es)
first-named name [] = refl
first-named name (e ∷ es) = ap (λ (n : ℕ). cond (not (bytes_eq name (string_bytes e.0))) (1 + n) 0) (first-named name es)

pub position-named : {F : Type 0} (name : List ℕ) (es : List (String Global × F)) → position (λ k. bytes_eq name (string_bytes k)) (keys_of es) ≡ place_named name (with_bytes es)
position-named name es =
    let first = first-named name es in
    let long : length (keys_of es) ≡ length (with_bytes es) = length-map es _ ∙ sym (length-map es _) in
    λ i. cond (nat_lt (first i) (long i)) (Some (first i)) None

-- a function whose name no other has goes last
pub insert-named : {F : Type 0} (k : String Global) (f : F) (es : List (String Global × F)) → is_named (string_bytes k) (with_bytes es) ≡ false
    → with_bytes (insert_entry string_eq es k f) ≡ with_bytes es ++ (string_bytes k, f) ∷ []
insert-named k f [] new = refl
insert-named {F} k f (e ∷ es) new = by (bytes_eq (string_bytes k) (string_bytes e.0)) new (insert-named k f es) where
  by : (b : Bool) → (b || is_named (string_bytes k) (with_bytes es)) ≡ false → (is_named (string_bytes k) (with_bytes es) ≡ false → with_bytes (insert_entry string_eq es k f) ≡ with_bytes es ++ (string_bytes k, f) ∷ [])
      → with_bytes (cond b ((e.0, f) ∷ es) (e ∷ insert_entry string_eq es k f)) ≡ (string_bytes e.0, e.1) ∷ (with_bytes es ++ (string_bytes k, f) ∷ [])
  by true h rest = cc
  by false h rest = ap (λ (r : List (List ℕ × F)). (string_bytes e.0, e.1) ∷ r) (rest h)

-- the same functions, told by something that each of them has
abbrev pub told : {F A : Type 0} → (F → A) → List (List ℕ × F) → List (List ℕ × A)
told f fs = map (λ e. (e.0, f e.1)) fs

pub length-told : {F A : Type 0} (f : F → A) (fs : List (List ℕ × F)) → length (told f fs) ≡ length fs
length-told {F} {A} f fs = length-map {B = List ℕ × A} fs (λ e. (e.0, f e.1))

pub named-told : {F A : Type 0} (f : F → A) (name : List ℕ) (fs : List (List ℕ × F)) → is_named name (told f fs) ≡ is_named name fs
named-told f name [] = refl
named-told f name (e ∷ fs) = ap (λ (b : Bool). bytes_eq name e.0 || b) (named-told f name fs)

first-told : {F A : Type 0} (f : F → A) (name : List ℕ) (fs : List (List ℕ × F)) → position_or_len (λ e. bytes_eq name e.0) (told f fs) ≡ position_or_len (λ e. bytes_eq name e.0) fs
first-told f name [] = refl
first-told f name (e ∷ fs) = ap (λ (n : ℕ). cond (not (bytes_eq name e.0)) (1 + n) 0) (first-told f name fs)

pub place-told : {F A : Type 0} (f : F → A) (name : List ℕ) (fs : List (List ℕ × F)) → place_named name (told f fs) ≡ place_named name fs
place-told f name fs =
    let first = first-told f name fs in
    let long = length-told f fs in
    λ i. cond (nat_lt (first i) (long i)) (Some (first i)) None
