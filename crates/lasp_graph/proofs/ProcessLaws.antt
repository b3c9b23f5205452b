-- Functions that a library has at a place, and how many rows a process over one set has.
use Rattle.std.proofs.Common.{◌≡◌, ◌∙◌, sym, ℕ, zero, suc, ◌+◌, ◌<◌, ◌≤◌, Bool, true, false, List, [], ◌∷◌, length, map, Some, Result, Ok, Err, IfOk, arith}
use Rattle.std.proofs.lemmas.List.{length-map}
use Rattle.std.specs.Prelude.{if◌then◌else◌}
use Rattle.std.specs.FinMap.Entries.{by_order}
use Rattle.std.specs.declared.cmp.Ordering.{Ordering}
use Rattle.std.specs.declared.cmp.Ordering.TheVariants.{Less, Equal, Greater}
use Rattle.std.proofs.lemmas.Option.{same_Some}
use Rattle.model_values.specs.Value.{Val}
use Rattle.model_values.specs.Row.{Row, key_cmp}
use Rattle.model_functions.specs.Library.{operations_at}
use Rattle.model_sets.specs.Rows.{put, of_rows}
use Rattle.model_sets.specs.Equations.{moved, map_set, filter_set}

pub place-within : {A : Type 0} (functions : List (List ℕ × A)) (place : ℕ) (ops : A) → operations_at functions place ≡ Some ops → place < length functions
place-within [] zero ops e = cc
place-within [] (suc place) ops e = cc
place-within (f ∷ functions) zero ops e = omega arith
place-within (f ∷ functions) (suc place) ops e = omega (arith, place-within functions place ops e)

-- the function that was found is the one that was meant
pub ops-found : {A : Type 0} (functions : List (List ℕ × A)) (place : ℕ) (found meant : A) → operations_at functions place ≡ Some found → operations_at functions place ≡ Some meant → found ≡ meant
ops-found functions place found meant e f = same_Some found meant (sym e ∙ f)

length-by_order : (o : Ordering) (a b c : List Row) (n : ℕ) → length a ≤ n → length b ≤ n → length c ≤ n → length (by_order o a b c) ≤ n
length-by_order Less a b c n h k l = h
length-by_order Equal a b c n h k l = k
length-by_order Greater a b c n h k l = l

length-put : (r : Row) (s : List Row) → length (put r s) ≤ length s + 1
length-put r [] = omega arith
length-put r (q ∷ s) = length-by_order (key_cmp r.0 q.0) _ _ _ (length (q ∷ s) + 1) (omega arith) (omega arith) (omega (arith, length-put r s))

length-of_rows : (s : List Row) → length (of_rows s) ≤ length s
length-of_rows [] = omega arith
length-of_rows (r ∷ s) = omega (arith, length-put r (of_rows s), length-of_rows s)

pub length-map_set : (f : Val → Val) (x : List Row) → length (map_set f x) ≤ length x
length-map_set f x = omega (arith, length-of_rows (map (moved f) x), length-map x (moved f))

kept : (b : Bool) (r : Row) (s : List Row) (n : ℕ) → length s ≤ n → length (if b then r ∷ s else s) ≤ n + 1
kept true r s n h = omega (arith, h)
kept false r s n h = omega (arith, h)

pub length-filter_set : (p : Val → Bool) (x : List Row) → length (filter_set p x) ≤ length x
length-filter_set p [] = omega arith
length-filter_set p (r ∷ x) = omega (arith, kept (p r.0.0) r (filter_set p x) (length x) (length-filter_set p x))

pub result-as : {E : Type 0} (r : Result (List Row) E) (s t : List Row) → s ≡ t → IfOk r (λ a. a ≡ s) → IfOk r (λ a. a ≡ t)
result-as (Ok a) s t e h = h ∙ e
result-as (Err e) s t same h = tt

pub ruleset sizes = (length-map_set, length-filter_set)
