-- Tokens, and their order.
use Rattle.std.specs.Prelude.{◌≡◌, ℕ, refl}
use mathlib.Core.Path.{ap, subst}
use Rattle.std.specs.Ordering.{ordering_then, ordering_reverse, nat_cmp}
use Rattle.std.specs.declared.cmp.Ordering.{Ordering}
use Rattle.std.specs.declared.cmp.Ordering.TheVariants.{Less, Equal, Greater}
use Rattle.std.specs.Cmp.{IsTotalOrder, nat_cmp_total}
use Rattle.std.specs.Coded.{Coded}
use base.Stored.{Gv, gnum, gcons, num}
use Rattle.std.proofs.lemmas.Map.Lookups.{exact_unsigned}
use Rattle.model_values.specs.Order.{first_code, rest_code, then-trans, then-ties, then-reverse}

-- A token: the k-th update of a replica, or the two tokens that a row of a product or an intersection comes from.
pub data Tok : Type 0 where
  single : ℕ → ℕ → Tok
  both : Tok → Tok → Tok

-- The order: singles before pairs; singles by replica, then number; pairs by first, then second.
abbrev pub tok_cmp : Tok → Tok → Ordering
tok_cmp (single q k) (single r l) = ordering_then (nat_cmp q r) (nat_cmp k l)
tok_cmp (single q k) (both t s) = Less
tok_cmp (both t s) (single q k) = Greater
tok_cmp (both t s) (both u r) = ordering_then (tok_cmp t u) (tok_cmp s r)

-- Tokens that tie are the same.
pub tok_exact : (t s : Tok) → tok_cmp t s ≡ Equal → t ≡ s
tok_exact (single q k) (single r l) e =
    let h = then-ties (nat_cmp q r) (nat_cmp k l) e in
    λ i. single (exact_unsigned q r h.0 i) (exact_unsigned k l h.1 i)
tok_exact (both t s) (both u r) e =
    let h = then-ties (tok_cmp t u) (tok_cmp s r) e in
    λ i. both (tok_exact t u h.0 i) (tok_exact s r h.1 i)
tok_exact (single q k) (both t s) e = cc
tok_exact (both t s) (single q k) e = cc

-- Swapped, the order answers the reverse.
pub tok_antisymm : (t s : Tok) → tok_cmp t s ≡ ordering_reverse (tok_cmp s t)
tok_antisymm (single q k) (single r l) = then-reverse (nat_cmp q r) (nat_cmp r q) (nat_cmp k l) (nat_cmp l k) (nat_cmp_total.antisymm q r) (nat_cmp_total.antisymm k l)
tok_antisymm (both t s) (both u r) = then-reverse (tok_cmp t u) (tok_cmp u t) (tok_cmp s r) (tok_cmp r s) (tok_antisymm t u) (tok_antisymm s r)
tok_antisymm (single q k) (both t s) = refl
tok_antisymm (both t s) (single q k) = refl

-- The order chains.
pub tok_trans : (t s u : Tok) → tok_cmp t s ≡ Less → tok_cmp s u ≡ Less → tok_cmp t u ≡ Less
tok_trans (single q k) (single r l) (single p m) x y =
    then-trans (nat_cmp q r) (nat_cmp r p) (nat_cmp q p) (nat_cmp k l) (nat_cmp l m) (nat_cmp k m)
    (nat_cmp_total.trans q r p) (λ a b. subst (λ z. nat_cmp q z ≡ Less) (exact_unsigned r p b) a) (λ a. ap (λ z. nat_cmp z p) (exact_unsigned q r a)) (nat_cmp_total.trans k l m) x y
tok_trans (single q k) s (both u r) x y = refl
tok_trans (single q k) (both t s) (single p m) x y = cc
tok_trans (both t s) (single q k) u x y = cc
tok_trans (both t s) (both u r) (single p m) x y = cc
tok_trans (both t s) (both u r) (both v p) x y =
    then-trans (tok_cmp t u) (tok_cmp u v) (tok_cmp t v) (tok_cmp s r) (tok_cmp r p) (tok_cmp s p)
    (tok_trans t u v) (λ a b. subst (λ z. tok_cmp t z ≡ Less) (tok_exact u v b) a) (λ a. ap (λ z. tok_cmp z v) (tok_exact t u a)) (tok_trans s r p) x y

-- The order of tokens is total.
pub tok_total : IsTotalOrder tok_cmp
tok_total = record { antisymm = tok_antisymm; trans = tok_trans; congr = λ t s u e. ap (λ z. tok_cmp z u) (tok_exact t s e) }

-- A token as a tree of numbers.
pub tok_code : Tok → Gv
tok_code (single q k) = gcons (gnum 0) (gcons (gnum q) (gnum k))
tok_code (both t s) = gcons (gnum 1) (gcons (tok_code t) (tok_code s))

-- Tokens of one tree are the same.
pub tok_code-inj : (t s : Tok) → tok_code t ≡ tok_code s → t ≡ s
unfolding tok_code
tok_code-inj (single q k) (single r l) e =
    λ i. single (ap (λ g. num (first_code (rest_code g))) e i) (ap (λ g. num (rest_code (rest_code g))) e i)
tok_code-inj (both t s) (both u r) e =
    λ i. both (tok_code-inj t u (ap (λ g. first_code (rest_code g)) e) i) (tok_code-inj s r (ap (λ g. rest_code (rest_code g)) e) i)
tok_code-inj (single q k) (both t s) e = cc
tok_code-inj (both t s) (single q k) e = cc

-- The code of tokens.
abbrev pub coded_tok : Coded Tok
coded_tok = record { code = tok_code; inj = tok_code-inj }
