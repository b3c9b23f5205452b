-- The view of tokens as plain data, and their order through it.
use Rattle.std.specs.Prelude.{Some, refl}
use Rattle.std.specs.Ordering.{on, eq_by_cmp}
use Rattle.std.specs.declared.cmp.Ordering.{Ordering}
use Rattle.std.specs.Cmp.{IsTotalOrder, IsEquivalence, IsPartialOrder, on_total, eq_by_cmp_equiv, po}
use Rattle.model_values.specs.Token.{Tok, single, both, tok_cmp, tok_total}
use Rattle.lasp_value.specs.declared.token.Token.{Token, Base, Both'}

-- a token without its boxes
abbrev pub tok_of : Token → Tok
tok_of (Base replica k) = single replica k
tok_of (Both' p a q b) = both (tok_of a) (tok_of b)

abbrev pub token_cmp : Token → Token → Ordering
token_cmp = on tok_of tok_cmp

pub token_total : IsTotalOrder token_cmp
token_total = on_total tok_of tok_total

pub token_equivalence : IsEquivalence (eq_by_cmp token_cmp)
token_equivalence = eq_by_cmp_equiv token_total

pub token_order : IsPartialOrder (eq_by_cmp token_cmp) (λ x y. Some (token_cmp x y))
token_order = po token_total (λ _ _. refl)
