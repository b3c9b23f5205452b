-- The laws of both ways to make a set of two row by row.
use Rattle.std.proofs.Common.{◌≡◌, ◌∙◌, ℕ, ◌<◌, Bool, true, false, if◌then◌else◌, List, [], ◌∷◌, map, filter, flat_map, length, Result, Ok, Err, OnOk, sym, ap, subst}
use Rattle.model_values.specs.Row.{Row}
use Rattle.model_sets.specs.Rows.{IsAscending, IsAtMost, put, of_rows, join, is_of}
use Rattle.model_sets.specs.Rises.{AreApart}
use Rattle.model_sets.specs.Equations.{paired, met}
use Rattle.model_sets.proofs.RowLaws.{join-row, join-nothing, join-of_rows}
use Rattle.model_sets.proofs.EquationLaws.{ascending-product, ascending-intersect, product-monotone, intersect-monotone}
use Rattle.lasp_setops.specs.Grown.{IsGrown}
use Rattle.lasp_setops.specs.Pairs.{gives, gives_from, pair_set, pair_set_from, partners}
use Rattle.lasp_setops.specs.declared.pairs.Pairing.{Pairing}
use Rattle.lasp_setops.specs.declared.pairs.Pairing.TheVariants.{Product, Intersection}
use Rattle.lasp_setops.specs.declared.pairs.Side.{Side}
use Rattle.lasp_setops.specs.declared.pairs.Side.TheVariants.{First, Second}
use Rattle.lasp_setops.specs.declared.refused.SetRefused.{SetRefused}
use Rattle.lasp_setops.proofs.EntryLaws.{map-flat, join-entries}
use Rattle.lasp_setops.proofs.GrownLaws.{product-steps, intersect-steps}
use Rattle.lasp_setops.proofs.SwapLaws.{by_first, swap-join, meetings-kept, meetings-any, met_by-any}

-- ---- what two rows make

pub product-made : (p : Pairing) (r q m : Row) → p ≡ Product → m ≡ paired r q → gives p r q ≡ m ∷ []
product-made p r q m is made = (λ i. gives (is i) r q) ∙ ap (λ (n : Row). n ∷ []) (sym made)

pub intersection-made : (p : Pairing) (r q m : Row) → p ≡ Intersection → is_of r.0.0 q ≡ true → m ≡ met r q → gives p r q ≡ m ∷ []
intersection-made p r q m is same made = (λ i. gives (is i) r q) ∙ ap (λ (b : Bool). if b then met r q ∷ [] else []) same ∙ ap (λ (n : Row). n ∷ []) (sym made)

pub intersection-none : (p : Pairing) (r q : Row) → p ≡ Intersection → is_of r.0.0 q ≡ false → gives p r q ≡ []
intersection-none p r q is other = (λ i. gives (is i) r q) ∙ ap (λ (b : Bool). if b then met r q ∷ [] else []) other

-- joined in
pub join-none : (rows s : List Row) → IsAscending s → rows ≡ [] → s ≡ join s rows
join-none rows s up none = sym (join-nothing s up) ∙ ap (join s) (sym none)

put-made : (m : Row) (rows s : List Row) → IsAscending s → rows ≡ m ∷ [] → put m s ≡ join s rows
put-made m rows s up one = sym (join-row s m up) ∙ ap (join s) (sym one)

pub join-made : (m : Row) (rows s t : List Row) (a : Result (Unit {0}) SetRefused) → IsAscending s → rows ≡ m ∷ [] → OnOk a (t ≡ put m s) → OnOk a (t ≡ join s rows)
join-made m rows s t (Ok x) up one h = h ∙ put-made m rows s up one
join-made m rows s t (Err e) up one h = h

pub long-made : (n : ℕ) (m : Row) (rows s : List Row) → IsAscending s → rows ≡ m ∷ [] → n < length (put m s) → n < length (join s rows)
long-made n m rows s up one h = subst (λ (u : List Row). n < length u) (put-made m rows s up one) h

-- ---- what a row makes with a set

-- its partners are enough, in any order
pub partners-any : (p : Pairing) (d : Side) (s : List Row) (r : Row) (rows y : List Row) → AreApart rows → partners p r (of_rows rows) ≡ partners p r y → join s (flat_map (gives_from p d r) rows) ≡ join s (flat_map (gives_from p d r) y)
partners-any Product d s r rows y apart is = join-entries s (gives_from Product d r) rows y apart is
partners-any Intersection First s r rows y apart is = meetings-any s r rows y apart is
partners-any Intersection Second s r rows y apart is = met_by-any s r rows y apart is

-- ---- what two sets make

pub ascending-pairs : (p : Pairing) (x y : List Row) → IsAscending (pair_set p x y)
ascending-pairs Product x y = ascending-product x y
ascending-pairs Intersection x y = ascending-intersect x y

pub pairs-monotone : (p : Pairing) (x x' y y' : List Row) → IsAtMost x x' → IsAtMost y y' → IsAtMost (pair_set p x y) (pair_set p x' y')
pairs-monotone Product x x' y y' = product-monotone x x' y y'
pairs-monotone Intersection x x' y y' = intersect-monotone x x' y y'

-- row by row of the first set, and of that on either side
pairs-first : (p : Pairing) (s x y : List Row) → join s (by_first (gives p) x y) ≡ join s (pair_set p x y)
pairs-first Product s x y = (λ i. join s (flat_map (λ r. sym (map-flat (paired r) y) i) x)) ∙ sym (join-of_rows s (flat_map (λ r. map (paired r) y) x))
pairs-first Intersection s x y = (λ i. join s (flat_map (λ r. meetings-kept r y i) x)) ∙ sym (join-of_rows s (flat_map (λ r. map (met r) (filter (is_of r.0.0) y)) x))

pub pairs-from : (p : Pairing) (d : Side) (s x y : List Row) → join s (flat_map (λ r. flat_map (gives_from p d r) y) x) ≡ join s (pair_set_from p d x y)
pairs-from p First s x y = pairs-first p s x y
pairs-from p Second s y x = sym (swap-join (gives p) s x y) ∙ pairs-first p s x y

pub pair-steps : (p : Pairing) (x c x' y d y' old : List Row) → IsGrown x c x' → IsGrown y d y' → old ≡ pair_set p x y → join (join old (pair_set p c y')) (pair_set p x' d) ≡ pair_set p x' y'
pair-steps Product x c x' y d y' old h k is = product-steps x c x' y d y' old h k is
pair-steps Intersection x c x' y d y' old h k is = intersect-steps x c x' y d y' old h k is
