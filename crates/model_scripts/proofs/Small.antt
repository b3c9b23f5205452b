-- The numbers of a tree that was read fit 64 bits, and so do those of its parts and words.
use Rattle.std.proofs.Common.{refl, arith}
use Rattle.std.specs.Prelude.{◌≡◌, ℕ, zero, suc, pos, neg_ℤ, ◌^◌, ◌<◌, ◌≤◌, ◌&&◌, ◌==◌, List, [], ◌∷◌, drop, slice_index, Bool, true, false, nat_lt, nat_le, if◌then◌else◌, Option, Some, None, option_map, option_and_then, IfSome, FitsSigned, codes}
use mir.Syntax.{w64}
use Rattle.std.proofs.lemmas.Bool.{ltb-true, leb-true}
use Rattle.std.specs.Str.{is_utf8}
use Rattle.std.specs.Float.{binary64, float_is_finite}
use Rattle.fast_float.specs.Text.{minus, Parts, scan, digits_of, nearest}
use Rattle.json.specs.Lex.{tokens}
use Rattle.json.specs.Json as json
use Rattle.serde_json.specs.Data.{Num, unsigned, negative, float, Data, null, boolean, number, string, array, object, Items, no_items, item, no_members}
use Rattle.serde_json.specs.Read.{is_integer, float_of, number_from, number_of, of_json, of_items, of_members, max_depth, read}
use Rattle.serde_json.specs.Find.{at, get_item, as_number, as_array}
use Rattle.model_readings.specs.Tree.{json_of, list_of, number_at, text_at, is_word_at, has_items}
use Rattle.model_readings.proofs.Graphs.{if-some}
use Rattle.model_scripts.specs.Word.{Bound, at_least, above, count, added, removed, Word, list_at, bound_of, word_of}
use Rattle.model_scripts.proofs.WordForms.{size-some, map-some, then-some, any-some, Has, IsFormed, formed-some, some-here, word-has}

-- the number fits 64 bits
abbrev pub IsSmallNumber : Num → Type 0
IsSmallNumber (unsigned n) = n < 2 ^ 64
IsSmallNumber (negative z) = FitsSigned w64 z
IsSmallNumber (float x) = Unit {0}

-- so do those in arrays
abbrev mutual
  pub IsSmall : Data → Type 0
  IsSmall null = Unit {0}
  IsSmall (boolean b) = Unit {0}
  IsSmall (number n) = IsSmallNumber n
  IsSmall (string s) = Unit {0}
  IsSmall (array ds) = AreSmallItems ds
  IsSmall (object ms) = Unit {0}

  pub AreSmallItems : Items → Type 0
  AreSmallItems no_items = Unit {0}
  AreSmallItems (item d ds) = IsSmall d × AreSmallItems ds

-- ---- what is read of bytes

negative-fits : (n : ℕ) → n ≤ 2 ^ 63 → FitsSigned w64 (neg_ℤ (pos n))
negative-fits zero h = record { sfits = omega arith }
negative-fits (suc n) h = record { sfits = omega (arith, h) }

small-float : (sign : Bool) (p : Parts) → IfSome (float_of sign p) IsSmallNumber
small-float sign p = choose (float_is_finite (nearest binary64 sign p)) where
  choose : (b : Bool) → IfSome (if b then Some (float (nearest binary64 sign p)) else None) IsSmallNumber
  choose true = tt
  choose false = tt

small-unsigned : (n : ℕ) (a b : Bool) (o : Option Num) → nat_lt n (2 ^ 64) ≡ b → IfSome o IsSmallNumber → IfSome (if a && b then Some (unsigned n) else o) IsSmallNumber
small-unsigned n true true o e h = ltb-true _ _ e
small-unsigned n true false o e h = h
small-unsigned n false b o e h = h

small-negative : (n : ℕ) (a b c : Bool) (o : Option Num) → nat_le n (2 ^ 63) ≡ c → IfSome o IsSmallNumber → IfSome (if a && b && c then Some (negative (neg_ℤ (pos n))) else o) IsSmallNumber
small-negative n true true true o e h = negative-fits n (leb-true _ _ e)
small-negative n true true false o e h = h
small-negative n true false c o e h = h
small-negative n false b c o e h = h

small-number : (s : List ℕ) → IfSome (number_of s) IsSmallNumber
unfolding number_of
small-number s =
    let minus_parts = scan (drop 1 s) in
    let parts = scan s in
    if-some IsSmallNumber (slice_index s 0 == minus) (number_from true minus_parts) (number_from false parts)
    (small-negative (digits_of minus_parts) (is_integer minus_parts) (nat_lt 0 (digits_of minus_parts)) _ (float_of true minus_parts) refl (small-float true minus_parts))
    (small-unsigned (digits_of parts) (is_integer parts) _ (float_of false parts) refl (small-float false parts))

small-item : (d : Data) (o : Option Items) → IsSmall d → IfSome o AreSmallItems → IfSome (option_map (item d) o) AreSmallItems
small-item d o h k = map-some AreSmallItems AreSmallItems (item d) o (λ ds l. (h, l)) k

mutual
  small-json : (j : json.Json) → IfSome (of_json j) IsSmall
  small-json json.null = tt
  small-json (json.boolean b) = tt
  small-json (json.number s) = map-some IsSmall IsSmallNumber number (number_of s) (λ n h. h) (small-number s)
  small-json (json.string s) = tt
  small-json (json.array js) = map-some IsSmall AreSmallItems array (of_items js) (λ ds h. h) (small-items js)
  small-json (json.object ms) = map-some IsSmall (λ _. Unit {0}) object (of_members ms no_members) (λ _ _. tt) (any-some (of_members ms no_members))

  small-items : (js : json.Items) → IfSome (of_items js) AreSmallItems
  small-items json.no_items = tt
  small-items (json.item j js) = then-some AreSmallItems IsSmall (λ d. option_map (item d) (of_items js)) (of_json j) (λ d h. small-item d (of_items js) h (small-items js)) (small-json j)

small-read : (text : List ℕ) → IfSome (read text) IsSmall
small-read text =
    let last = option_and_then (λ p. json.if_last p.0 p.1) (json.value max_depth (tokens text)) in
    then-some IsSmall (λ _. Unit {0}) of_json last (λ j h. small-json j) (any-some last)

small-bytes : (bytes : List ℕ) → IfSome (json_of bytes) IsSmall
unfolding json_of
small-bytes bytes = size-some IsSmall (is_utf8 bytes) (read bytes) (small-read bytes)

pub small-tree : (bytes : List ℕ) (d : Data) → json_of bytes ≡ Some d → IsSmall d
small-tree bytes d e = some-here IsSmall (json_of bytes) d e (small-bytes bytes)

-- ---- the parts of a tree

abbrev pub AreSmall : List Data → Type 0
AreSmall [] = Unit {0}
AreSmall (d ∷ ds) = IsSmall d × AreSmall ds

small-list : (ds : Items) → AreSmallItems ds → AreSmall (list_of ds)
small-list no_items h = tt
small-list (item d ds) h = (h.0, small-list ds h.1)

small-array : (d : Data) → IsSmall d → IfSome (as_array d) AreSmallItems
small-array null h = tt
small-array (boolean b) h = tt
small-array (number n) h = tt
small-array (string s) h = tt
small-array (array ds) h = h
small-array (object ms) h = tt

pub small-parts : (d : Data) (ds : Items) → as_array d ≡ Some ds → IsSmall d → AreSmall (list_of ds)
small-parts d ds e h = small-list ds (some-here AreSmallItems (as_array d) ds e (small-array d h))

small-get : (i : ℕ) (ds : Items) → AreSmallItems ds → IfSome (get_item i ds) IsSmall
small-get i no_items h = tt
small-get zero (item d ds) h = h.0
small-get (suc i) (item d ds) h = small-get i ds h.1

small-at : (i : ℕ) (d : Data) → IsSmall d → IfSome (at i d) IsSmall
small-at i null h = tt
small-at i (boolean b) h = tt
small-at i (number n) h = tt
small-at i (string s) h = tt
small-at i (array ds) h = small-get i ds h
small-at i (object ms) h = tt

small-as_number : (d : Data) → IsSmall d → IfSome (as_number d) IsSmallNumber
small-as_number null h = tt
small-as_number (boolean b) h = tt
small-as_number (number n) h = h
small-as_number (string s) h = tt
small-as_number (array ds) h = tt
small-as_number (object ms) h = tt

small-number_at : (i : ℕ) (d : Data) → IsSmall d → IfSome (number_at i d) IsSmallNumber
small-number_at i d h = then-some IsSmallNumber IsSmall as_number (at i d) small-as_number (small-at i d h)

small-list_at : (i : ℕ) (d : Data) → IsSmall d → IfSome (list_at i d) AreSmall
small-list_at i d h = map-some AreSmall AreSmallItems list_of (option_and_then as_array (at i d)) small-list (then-some AreSmallItems IsSmall as_array (at i d) small-array (small-at i d h))

-- a threshold with such numbers
abbrev pub IsSmallBound : Bound → Type 0
IsSmallBound (at_least m) = Unit {0}
IsSmallBound (above m) = Unit {0}
IsSmallBound (count k) = IsSmallNumber k
IsSmallBound (added vs) = AreSmall vs
IsSmallBound (removed vs) = AreSmall vs

small-bound : (d : Data) → IsSmall d → IfSome (bound_of d) IsSmallBound
unfolding bound_of
small-bound d h =
    if-some IsSmallBound (is_word_at 0 (codes "at_least") d) _ _ (size-some IsSmallBound (has_items 2 d) _ (map-some IsSmallBound (λ _. Unit {0}) at_least (text_at 1 d) (λ m k. tt) (any-some (text_at 1 d))))
    (if-some IsSmallBound (is_word_at 0 (codes "above") d) _ _ (size-some IsSmallBound (has_items 2 d) _ (map-some IsSmallBound (λ _. Unit {0}) above (text_at 1 d) (λ m k. tt) (any-some (text_at 1 d))))
    (if-some IsSmallBound (is_word_at 0 (codes "count") d) _ _ (size-some IsSmallBound (has_items 2 d) _ (map-some IsSmallBound IsSmallNumber count (number_at 1 d) (λ n k. k) (small-number_at 1 d h)))
    (if-some IsSmallBound (is_word_at 0 (codes "added") d) _ _ (size-some IsSmallBound (has_items 2 d) _ (map-some IsSmallBound AreSmall added (list_at 1 d) (λ vs k. k) (small-list_at 1 d h)))
    (if-some IsSmallBound (is_word_at 0 (codes "removed") d) _ None (size-some IsSmallBound (has_items 2 d) _ (map-some IsSmallBound AreSmall removed (list_at 1 d) (λ vs k. k) (small-list_at 1 d h))) tt))))

-- a word with such numbers, which declares what has the form of a declaration
abbrev pub IsSmallWord : Word → Type 0
IsSmallWord = Has IsSmall IsSmallNumber IsSmallBound IsFormed

pub small-word : (d : Data) (w : Word) → IsSmall d → word_of d ≡ Some w → IsSmallWord w
small-word d w h e =
    some-here IsSmallWord (word_of d) w e
    (word-has IsSmall IsSmallNumber IsSmallBound IsFormed d (record {
      value = small-at 3 d h;
      number = small-number_at 3 d h;
      bound = then-some IsSmallBound IsSmall bound_of (at 3 d) small-bound (small-at 3 d h);
      tree = formed-some (at 1 d);
    }))
