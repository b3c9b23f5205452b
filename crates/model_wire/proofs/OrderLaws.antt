-- Items of which each stands above the one before it are items in ascending order, and the other way round.
use Rattle.std.proofs.Common.{◌≡◌, true, List, [], ◌∷◌, map, Option, Some, None, refl, ap}
use Rattle.std.specs.List.{AllByRecursion}
use Rattle.std.specs.Ordering.{is_lt}
use Rattle.std.specs.Cmp.{IsTotalOrder}
use Rattle.std.specs.FinMap.Entries.{below_all, is_sorted}
use Rattle.std.specs.declared.cmp.Ordering.{Ordering}
use Rattle.std.specs.declared.cmp.Ordering.TheVariants.{Less, Equal, Greater}
use Rattle.std.proofs.lemmas.Bool.{and_parts, and_from}
use Rattle.model_wire.specs.Value.{is_above, latest}
use Rattle.model_wire.proofs.Codecs.{HasTested, AllHave}

pub less : (o : Ordering) → is_lt o ≡ true → o ≡ Less
less Less h = refl
less Equal h = absurd cc
less Greater h = absurd cc

module _ (A K X : Type 0) (entry : A → K × X) (order : K → K → Ordering) (total : IsTotalOrder order) (Has : A → Type 0) where
  abbrev cmp : A → A → Ordering
  cmp a b = order (entry a).0 (entry b).0

  abbrev Rise : Option A → List A → Type 0
  Rise before xs = AllHave (Option A) A (λ s. HasTested A Has (is_above cmp s)) latest before xs

  below : (y : A) (xs : List A) → Rise (Some y) xs → below_all order (entry y).0 (map entry xs) ≡ true
  below y [] h = refl
  below y (x ∷ xs) h =
      and_from _ _ h.0.1 (under xs (below x xs h.1))
    where
      under : (zs : List A) → below_all order (entry x).0 (map entry zs) ≡ true → below_all order (entry y).0 (map entry zs) ≡ true
      under [] k = refl
      under (z ∷ zs) k =
          let both = and_parts _ _ k in
          and_from _ _ (ap is_lt (total.trans (entry y).0 (entry x).0 (entry z).0 (less _ h.0.1) (less _ both.0))) (under zs both.1)

  pub rise_sorted : (before : Option A) (xs : List A) → Rise before xs → is_sorted order (map entry xs) ≡ true
  rise_sorted before [] h = refl
  rise_sorted before (x ∷ xs) h = and_from _ _ (below x xs h.1) (rise_sorted (Some x) xs h.1)

  pub rise_each : (before : Option A) (xs : List A) → Rise before xs → AllByRecursion Has xs
  rise_each before [] h = tt
  rise_each before (x ∷ xs) h = (h.0.0, rise_each (Some x) xs h.1)

  rise_after : (y : A) (xs : List A) → below_all order (entry y).0 (map entry xs) ≡ true → is_sorted order (map entry xs) ≡ true → AllByRecursion Has xs → Rise (Some y) xs
  rise_after y [] low sorted each = tt
  rise_after y (x ∷ xs) low sorted each =
      let l = and_parts _ _ low in
      let s = and_parts _ _ sorted in
      ((each.0, l.0), rise_after x xs s.0 s.1 each.1)

  pub sorted_rise : (xs : List A) → is_sorted order (map entry xs) ≡ true → AllByRecursion Has xs → Rise None xs
  sorted_rise [] sorted each = tt
  sorted_rise (x ∷ xs) sorted each =
      let s = and_parts _ _ sorted in
      ((each.0, refl), rise_after x xs s.0 s.1 each.1)
