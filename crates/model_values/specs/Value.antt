-- Values, and their order.
use Rattle.std.specs.Prelude.{◌≡◌, ℕ, ℤ, List, refl}
use mathlib.Core.Path.{ap, subst}
use Rattle.std.specs.Ordering.{ordering_then, ordering_reverse, nat_cmp, int_cmp}
use Rattle.std.specs.declared.cmp.Ordering.{Ordering}
use Rattle.std.specs.declared.cmp.Ordering.TheVariants.{Less, Equal, Greater}
use Rattle.std.specs.Cmp.{IsTotalOrder, int_cmp_total}
use Rattle.std.specs.Cmp.Lexicographic.{slice_cmp, nat_list_cmp_total}
use Rattle.std.specs.Coded.{Coded, coded_ℕ, coded_ℤ, coded_list}
use base.Stored.{Gv, gnum, gcons}
use Rattle.std.proofs.lemmas.Map.Lookups.{exact_signed, exact_bytes}
use Rattle.model_values.specs.Order.{first_code, rest_code, then-trans, then-ties, then-reverse}

-- A value: a whole number, a text as its bytes, or a pair of values.
pub data Val : Type 0 where
  int : ℤ → Val
  text : List ℕ → Val
  pair : Val → Val → Val

-- The order: numbers before texts before pairs; numbers by size, texts by their bytes, pairs by first, then second.
abbrev pub val_cmp : Val → Val → Ordering
val_cmp (int m) (int n) = int_cmp m n
val_cmp (int m) (text t) = Less
val_cmp (int m) (pair c d) = Less
val_cmp (text s) (int n) = Greater
val_cmp (text s) (text t) = slice_cmp nat_cmp s t
val_cmp (text s) (pair c d) = Less
val_cmp (pair a b) (int n) = Greater
val_cmp (pair a b) (text t) = Greater
val_cmp (pair a b) (pair c d) = ordering_then (val_cmp a c) (val_cmp b d)

-- Values that tie are the same.
pub val_exact : (v w : Val) → val_cmp v w ≡ Equal → v ≡ w
val_exact (int m) (int n) e = ap int (exact_signed m n e)
val_exact (text s) (text t) e = ap text (exact_bytes s t e)
val_exact (pair a b) (pair c d) e =
    let h = then-ties (val_cmp a c) (val_cmp b d) e in
    λ i. pair (val_exact a c h.0 i) (val_exact b d h.1 i)
val_exact (int m) (text t) e = cc
val_exact (int m) (pair c d) e = cc
val_exact (text s) (int n) e = cc
val_exact (text s) (pair c d) e = cc
val_exact (pair a b) (int n) e = cc
val_exact (pair a b) (text t) e = cc

-- Swapped, the order answers the reverse.
pub val_antisymm : (v w : Val) → val_cmp v w ≡ ordering_reverse (val_cmp w v)
val_antisymm (int m) (int n) = int_cmp_total.antisymm m n
val_antisymm (text s) (text t) = nat_list_cmp_total.antisymm s t
val_antisymm (pair a b) (pair c d) = then-reverse (val_cmp a c) (val_cmp c a) (val_cmp b d) (val_cmp d b) (val_antisymm a c) (val_antisymm b d)
val_antisymm (int m) (text t) = refl
val_antisymm (int m) (pair c d) = refl
val_antisymm (text s) (int n) = refl
val_antisymm (text s) (pair c d) = refl
val_antisymm (pair a b) (int n) = refl
val_antisymm (pair a b) (text t) = refl

-- The order chains.
pub val_trans : (u v w : Val) → val_cmp u v ≡ Less → val_cmp v w ≡ Less → val_cmp u w ≡ Less
val_trans (int m) (int n) (int k) p q = int_cmp_total.trans m n k p q
val_trans (int m) v (text t) p q = refl
val_trans (int m) v (pair e f) p q = refl
val_trans (int m) (text s) (int k) p q = cc
val_trans (int m) (pair c d) (int k) p q = cc
val_trans (text s) (text t) (text r) p q = nat_list_cmp_total.trans s t r p q
val_trans (text s) v (pair e f) p q = refl
val_trans (text s) (int n) (int k) p q = cc
val_trans (text s) (int n) (text t) p q = cc
val_trans (text s) (text t) (int k) p q = cc
val_trans (text s) (pair c d) (int k) p q = cc
val_trans (text s) (pair c d) (text t) p q = cc
val_trans (pair a b) (int n) w p q = cc
val_trans (pair a b) (text t) w p q = cc
val_trans (pair a b) (pair c d) (int k) p q = cc
val_trans (pair a b) (pair c d) (text t) p q = cc
val_trans (pair a b) (pair c d) (pair e f) p q =
    then-trans (val_cmp a c) (val_cmp c e) (val_cmp a e) (val_cmp b d) (val_cmp d f) (val_cmp b f)
    (val_trans a c e) (λ x y. subst (λ z. val_cmp a z ≡ Less) (val_exact c e y) x) (λ x. ap (λ z. val_cmp z e) (val_exact a c x)) (val_trans b d f) p q

-- The order of values is total.
pub val_total : IsTotalOrder val_cmp
val_total = record { antisymm = val_antisymm; trans = val_trans; congr = λ u v w e. ap (λ z. val_cmp z w) (val_exact u v e) }

-- A value as a tree of numbers.
pub val_code : Val → Gv
val_code (int n) = gcons (gnum 0) ((coded_ℤ).code n)
val_code (text t) = gcons (gnum 1) ((coded_list coded_ℕ).code t)
val_code (pair a b) = gcons (gnum 2) (gcons (val_code a) (val_code b))

-- Values of one tree are the same.
pub val_code-inj : (v w : Val) → val_code v ≡ val_code w → v ≡ w
unfolding val_code
val_code-inj (int m) (int n) e = ap int ((coded_ℤ).inj m n (ap rest_code e))
val_code-inj (text s) (text t) e = ap text ((coded_list coded_ℕ).inj s t (ap rest_code e))
val_code-inj (pair a b) (pair c d) e =
    λ i. pair (val_code-inj a c (ap (λ g. first_code (rest_code g)) e) i) (val_code-inj b d (ap (λ g. rest_code (rest_code g)) e) i)
val_code-inj (int m) (text t) e = cc
val_code-inj (int m) (pair c d) e = cc
val_code-inj (text s) (int n) e = cc
val_code-inj (text s) (pair c d) e = cc
val_code-inj (pair a b) (int n) e = cc
val_code-inj (pair a b) (text t) e = cc

-- The code of values.
abbrev pub coded_val : Coded Val
coded_val = record { code = val_code; inj = val_code-inj }
