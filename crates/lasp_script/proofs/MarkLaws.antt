-- Marks are found by their names, and a mark of a new name goes last.
use Rattle.std.proofs.Common.{◌≡◌, ◌∙◌, refl, sym, ap, ℕ, zero, suc, ◌+◌, ◌≤◌, arith, List, [], ◌∷◌, ◌++◌, length, Bool, true, false, not, cond, ◌||◌, Some, None, nat_lt, String, string_bytes}
use Rattle.std.specs.Prelude.{slice_index_or}
use Rattle.std.specs.List.{position, position_or_len, slice_get}
use Rattle.std.specs.Map.{keys_of}
use Rattle.std.specs.Str.{bytes_eq}
use Rattle.std.specs.String.{string_eq}
use Rattle.std.specs.declared.alloc.Global.{Global}
use Rattle.std.proofs.lemmas.List.{length-map}
use Rattle.std.proofs.lemmas.Bool.{ltb-false}
use Rattle.indexmap.specs.IndexMap.{insert_entry}
use Rattle.lasp_fns.specs.Named.{is_named, place_named}
use Rattle.lasp_fns.proofs.Names.{with_bytes, position-named, insert-named}
use Rattle.model_scripts.specs.Progress.{mark_of}
use Rattle.lasp_script.specs.Marks.{Mark, names_of, marked_of}

first-name : (m : List ℕ) (ms : List Mark) → position_or_len (λ f. bytes_eq m f.0) ms ≡ position_or_len (λ n. bytes_eq m n) (names_of ms)
first-name m [] = refl
first-name m (x ∷ ms) = ap (λ (n : ℕ). cond (not (bytes_eq m x.0)) (1 + n) 0) (first-name m ms)

pub mark_of-named : (m : List ℕ) (ms : List Mark) → place_named m ms ≡ mark_of m (names_of ms)
unfolding mark_of
mark_of-named m ms =
    let first = first-name m ms in
    let long : length ms ≡ length (names_of ms) = sym (length-map {B = List ℕ} ms (λ x. x.0)) in
    λ i. cond (nat_lt (first i) (long i)) (Some (first i)) None

-- the number of the key that has the name
pub mark_of-keys : (m : List ℕ) (es : List (String Global × ℕ)) → position (λ k. bytes_eq m (string_bytes k)) (keys_of es) ≡ mark_of m (names_of (with_bytes es))
mark_of-keys m es = position-named m es ∙ mark_of-named m (with_bytes es)

-- the variable of the mark at a place
pub marked-entry : (es : List (String Global × ℕ)) (i : ℕ) (k : String Global) (x : ℕ) → slice_get es i ≡ Some (k, x) → slice_index_or (marked_of (with_bytes es)) i 0 ≡ x
marked-entry [] i k x at = absurd cc
marked-entry (e ∷ es) zero k x at = cc
marked-entry (e ∷ es) (suc i) k x at = marked-entry es i k x at

none-below : (n : ℕ) → suc n ≤ 0 → ⊥
none-below n h = omega (arith, h)

unfound : (m : List ℕ) (ms : List Mark) → length ms ≤ position_or_len (λ f. bytes_eq m f.0) ms → is_named m ms ≡ false
unfound m [] h = refl
unfound m (x ∷ ms) h = by (bytes_eq m x.0) h (unfound m ms) where
  by : (b : Bool) → suc (length ms) ≤ cond (not b) (1 + position_or_len (λ f. bytes_eq m f.0) ms) 0 → (length ms ≤ position_or_len (λ f. bytes_eq m f.0) ms → is_named m ms ≡ false) → (b || is_named m ms) ≡ false
  by true none rest = absurd (none-below (length ms) none)
  by false none rest = rest (omega (arith, none))

no-place : (b : Bool) (n : ℕ) → cond b (Some n) None ≡ None → b ≡ false
no-place true n h = absurd cc
no-place false n h = refl

pub is_named-new : (m : List ℕ) (ms : List Mark) → mark_of m (names_of ms) ≡ None → is_named m ms ≡ false
is_named-new m ms new = unfound m ms (ltb-false _ _ (no-place _ _ (mark_of-named m ms ∙ new)))

-- a mark of a new name goes last
pub marks-insert : (k : String Global) (x : ℕ) (es fs : List (String Global × ℕ)) (m : List ℕ) → string_bytes k ≡ m → mark_of m (names_of (with_bytes es)) ≡ None → fs ≡ insert_entry string_eq es k x
    → with_bytes fs ≡ with_bytes es ++ (m, x) ∷ []
marks-insert k x es fs m same new e =
    ap with_bytes e
    ∙ insert-named k x es (ap (λ (n : List ℕ). is_named n (with_bytes es)) same ∙ is_named-new m (with_bytes es) new)
    ∙ (λ i. with_bytes es ++ (same i, x) ∷ [])
