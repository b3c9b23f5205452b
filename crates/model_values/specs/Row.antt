-- Rows of an observed-remove set: a value, a token with which it was added, and whether that token was removed.
use Rattle.std.specs.Prelude.{◌≡◌, Bool, List}
use Rattle.std.specs.Ordering.{on, then_cmp}
use Rattle.std.specs.declared.cmp.Ordering.{Ordering}
use Rattle.std.specs.declared.cmp.Ordering.TheVariants.{Equal}
use Rattle.std.specs.Cmp.{IsTotalOrder, on_total, then_total}
use Rattle.std.specs.Coded.{Coded, coded_bool, coded_list, coded×}
use Rattle.model_values.specs.Order.{then-ties}
use Rattle.model_values.specs.Value.{Val, val_cmp, val_total, val_exact, coded_val}
use Rattle.model_values.specs.Token.{Tok, tok_cmp, tok_total, tok_exact, coded_tok}

-- What names a row: its value and its token.
abbrev pub Key : Type 0
Key = Val × Tok

-- A row: its key, and whether it is dead.
abbrev pub Row : Type 0
Row = Key × Bool

-- The row of a value and a token.
abbrev pub row : Val → Tok → Bool → Row
row v t dead = ((v, t), dead)

abbrev pub key_of : Row → Key
key_of r = r.0

abbrev pub value_of : Row → Val
value_of r = r.0.0

abbrev pub token_of : Row → Tok
token_of r = r.0.1

-- Whether the row's token was removed.
abbrev pub is_dead : Row → Bool
is_dead r = r.1

-- Keys by value, then token.
abbrev pub key_cmp : Key → Key → Ordering
key_cmp = then_cmp (on (λ k. k.0) val_cmp) (on (λ k. k.1) tok_cmp)

-- Rows by key.
abbrev pub row_cmp : Row → Row → Ordering
row_cmp r q = key_cmp r.0 q.0

-- The order of keys is total.
pub key_total : IsTotalOrder key_cmp
key_total = then_total (on_total (λ (k : Key). k.0) val_total) (on_total (λ (k : Key). k.1) tok_total)

-- Keys that tie are the same.
pub key_exact : (k l : Key) → key_cmp k l ≡ Equal → k ≡ l
key_exact k l e =
    let h = then-ties (val_cmp k.0 l.0) (tok_cmp k.1 l.1) e in
    λ i. (val_exact k.0 l.0 h.0 i, tok_exact k.1 l.1 h.1 i)

-- The codes of keys, rows and lists of rows.
abbrev pub coded_key : Coded Key
coded_key = coded× coded_val coded_tok

abbrev pub coded_row : Coded Row
coded_row = coded× coded_key coded_bool

abbrev pub coded_rows : Coded (List Row)
coded_rows = coded_list coded_row

-- The laws of the orders.
pub ruleset orders = (val_total, val_exact, tok_total, tok_exact, key_total, key_exact)
