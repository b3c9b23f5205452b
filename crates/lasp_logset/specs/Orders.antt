-- The order of rows by their keys, and of values.
use Rattle.std.specs.Prelude.{Some, refl}
use Rattle.std.specs.Ordering.{eq_by_cmp}
use Rattle.std.specs.Cmp.{IsTotalOrder, IsEquivalence, IsPartialOrder, on_total, eq_by_cmp_equiv, po}
use Rattle.model_values.specs.Value.{val_cmp, val_total}
use Rattle.model_values.specs.Row.{Row, key_total, row_cmp}

pub row_total : IsTotalOrder row_cmp
row_total = on_total (λ (r : Row). r.0) key_total

pub row_equivalence : IsEquivalence (eq_by_cmp row_cmp)
row_equivalence = eq_by_cmp_equiv row_total

pub row_order : IsPartialOrder (eq_by_cmp row_cmp) (λ x y. Some (row_cmp x y))
row_order = po row_total (λ _ _. refl)

pub val_equivalence : IsEquivalence (eq_by_cmp val_cmp)
val_equivalence = eq_by_cmp_equiv val_total

pub val_order : IsPartialOrder (eq_by_cmp val_cmp) (λ x y. Some (val_cmp x y))
val_order = po val_total (λ _ _. refl)
