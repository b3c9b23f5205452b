-- A tree stands for no value exactly where a part of it doesn't, and the first such part tells why.
use Rattle.std.specs.Prelude.{◌≡◌, ◌↔◌, ℤ, Bool, true, false, is_some, if◌then◌else◌, List, [], ◌∷◌, ◌++◌, slice_get, Option, Some, None, Result, Ok, Err, ok_or, option_map, refl}
use mathlib.Core.Path.{ap, ◌∙◌, sym}
use Rattle.serde_json.specs.Data.{Data, null, boolean, number, string, array, object, no_items, item}
use Rattle.serde_json.specs.Find.{as_i64}
use Rattle.model_values.specs.Value.{Val, int}
use Rattle.model_values.specs.declared.value_why.ValueWhy.{ValueWhy}
use Rattle.model_values.specs.declared.value_why.ValueWhy.TheVariants as why
use Rattle.model_values.specs.Json.{paired, written_value, is_source_value, if_source_value, read_value, offences}

-- why nothing is read
abbrev refusal_of : Result Val ValueWhy → Option ValueWhy
refusal_of (Ok v) = None
refusal_of (Err e) = Some e

first_of_both : (r q : Result Val ValueWhy) (es fs : List ValueWhy) → refusal_of r ≡ slice_get es 0 → refusal_of q ≡ slice_get fs 0
    → refusal_of (paired r q) ≡ slice_get (es ++ (fs ++ [])) 0
first_of_both (Err e) q [] fs h k = cc
first_of_both (Err e) q (f ∷ es) fs h k = h
first_of_both (Ok v) q (f ∷ es) fs h k = cc
first_of_both (Ok v) (Ok w) [] [] h k = refl
first_of_both (Ok v) (Ok w) [] (f ∷ fs) h k = cc
first_of_both (Ok v) (Err e) [] [] h k = cc
first_of_both (Ok v) (Err e) [] (f ∷ fs) h k = k

first_of_number : (o : Option ℤ) → refusal_of (ok_or (option_map int o) why.NumberRefused) ≡ slice_get (if is_some o then [] else why.NumberRefused ∷ []) 0
first_of_number None = refl
first_of_number (Some n) = refl

-- the refusal of a tree is that of its first offending part
refusal-first : (d : Data) → refusal_of (written_value d) ≡ slice_get (offences d) 0
refusal-first null = refl
refusal-first (boolean b) = refl
refusal-first (number n) = first_of_number (as_i64 n)
refusal-first (string s) = refl
refusal-first (array no_items) = refl
refusal-first (array (item a no_items)) = refl
refusal-first (array (item a (item b no_items))) = first_of_both (written_value a) (written_value b) (offences a) (offences b) (refusal-first a) (refusal-first b)
refusal-first (array (item a (item b (item c ds)))) = refl
refusal-first (object ms) = refl

refused_as : (r : Result Val ValueWhy) (o : Option ValueWhy) (e : ValueWhy) → refusal_of r ≡ o → (r ≡ Err e) ↔ (o ≡ Some e)
refused_as (Ok v) o e h = (λ k. cc, λ k. cc)
refused_as (Err d) o e h = (λ k. cc, λ k. cc)

-- exactly where the first offending part is of a kind is the refusal of this kind
pub written-refused : (d : Data) (e : ValueWhy) → (written_value d ≡ Err e) ↔ (slice_get (offences d) 0 ≡ Some e)
written-refused d e = refused_as (written_value d) (slice_get (offences d) 0) e (refusal-first d)

big : (r : Result Val ValueWhy) (v : Val) → r ≡ Ok v → is_source_value v ≡ false → if_source_value r ≡ Err why.TooBig
big r v e f = ap if_source_value e ∙ ap (λ b. if b then Ok v else Err why.TooBig) f

-- a value of which each part stands for one is refused exactly where it is too big
pub read-too_big : (d : Data) (v : Val) → written_value d ≡ Ok v → (read_value d ≡ Err why.TooBig) ↔ (is_source_value v ≡ false)
unfolding read_value
read-too_big d v e = (λ h. only_big v _ refl (sym (ap if_source_value e) ∙ h), big (written_value d) v e) where
  only_big : (v : Val) (b : Bool) → is_source_value v ≡ b → (if b then Ok v else Err why.TooBig) ≡ Err why.TooBig → b ≡ false
  only_big v true e h = cc
  only_big v false e h = refl

-- an offending part stands before the size
pub read-refused : (d : Data) (e : ValueWhy) → slice_get (offences d) 0 ≡ Some e → read_value d ≡ Err e
unfolding read_value
read-refused d e h = ap if_source_value ((written-refused d e).1 h)
