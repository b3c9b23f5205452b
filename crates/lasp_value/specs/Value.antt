-- The view of values as plain data, and their order through it.
use Rattle.std.specs.Prelude.{Some, refl}
use Rattle.std.specs.Ordering.{on, eq_by_cmp}
use Rattle.std.specs.declared.cmp.Ordering.{Ordering}
use Rattle.std.specs.Cmp.{IsTotalOrder, IsEquivalence, IsPartialOrder, on_total, eq_by_cmp_equiv, po}
use Rattle.model_values.specs.Value.{Val, int, text, pair, val_cmp, val_total}
use Rattle.lasp_value.specs.declared.value.Value.{Value, Int, Text, Pair'}

-- a value without its boxes
abbrev pub val_of : Value → Val
val_of (Int n) = int n
val_of (Text t) = text t
val_of (Pair' p a q b) = pair (val_of a) (val_of b)

abbrev pub value_cmp : Value → Value → Ordering
value_cmp = on val_of val_cmp

pub value_total : IsTotalOrder value_cmp
value_total = on_total val_of val_total

pub value_equivalence : IsEquivalence (eq_by_cmp value_cmp)
value_equivalence = eq_by_cmp_equiv value_total

pub value_order : IsPartialOrder (eq_by_cmp value_cmp) (λ x y. Some (value_cmp x y))
value_order = po value_total (λ _ _. refl)
