-- How an order made of two, one after the other, chains, and how a code in two parts is taken apart.
use Rattle.std.specs.Prelude.{◌≡◌, refl}
use mathlib.Core.Path.{ap, ◌∙◌}
use Rattle.std.specs.Ordering.{ordering_then, ordering_reverse}
use Rattle.std.specs.declared.cmp.Ordering.{Ordering}
use Rattle.std.specs.declared.cmp.Ordering.TheVariants.{Less, Equal, Greater}
use base.Stored.{Gv, gnil, gnum, gcons}

-- The left part of a code.
abbrev pub first_code : Gv → Gv
first_code gnil = gnil
first_code (gnum n) = gnil
first_code (gcons a b) = a

-- The right part of a code.
abbrev pub rest_code : Gv → Gv
rest_code gnil = gnil
rest_code (gnum n) = gnil
rest_code (gcons a b) = b

-- Where two orders chain, so does the first followed by the second.
pub then-trans : (x y z u v w : Ordering) → (x ≡ Less → y ≡ Less → z ≡ Less) → (x ≡ Less → y ≡ Equal → z ≡ Less) → (x ≡ Equal → z ≡ y) → (u ≡ Less → v ≡ Less → w ≡ Less)
    → ordering_then x u ≡ Less → ordering_then y v ≡ Less → ordering_then z w ≡ Less
then-trans Less Less z u v w chain tied same rest p q = ap (λ o. ordering_then o w) (chain refl refl)
then-trans Less Equal z u v w chain tied same rest p q = ap (λ o. ordering_then o w) (tied refl refl)
then-trans Less Greater z u v w chain tied same rest p q = cc
then-trans Equal Less z u v w chain tied same rest p q = ap (λ o. ordering_then o w) (same refl)
then-trans Equal Equal z u v w chain tied same rest p q = ap (λ o. ordering_then o w) (same refl) ∙ rest p q
then-trans Equal Greater z u v w chain tied same rest p q = cc
then-trans Greater y z u v w chain tied same rest p q = cc

-- Two orders, one after the other, tie where both tie.
pub then-ties : (x u : Ordering) → ordering_then x u ≡ Equal → (x ≡ Equal) × (u ≡ Equal)
then-ties Less u e = cc
then-ties Equal u e = (refl, e)
then-ties Greater u e = cc

-- The first order followed by the second, the other way round.
pub then-reverse : (x y u v : Ordering) → x ≡ ordering_reverse y → u ≡ ordering_reverse v → ordering_then x u ≡ ordering_reverse (ordering_then y v)
then-reverse x Less u v p q = ap (λ o. ordering_then o u) p
then-reverse x Equal u v p q = ap (λ o. ordering_then o u) p ∙ q
then-reverse x Greater u v p q = ap (λ o. ordering_then o u) p
