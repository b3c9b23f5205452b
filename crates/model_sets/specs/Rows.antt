-- The state of an observed-remove set as its list of rows: what it says of each value and token, the order, the join, and what an add and a remove join in.
use Rattle.std.specs.Prelude.{◌≡◌, ℕ, ◌≤◌, ◌<◌, max, Bool, true, false, ◌||◌, if◌then◌else◌, IsTrue, List, [], ◌∷◌, ◌++◌, map, filter}
use Rattle.std.specs.Ordering.{eq_by_cmp}
use Rattle.std.specs.FinMap.Entries.{by_order, is_sorted}
use Rattle.model_values.specs.Value.{Val, val_cmp}
use Rattle.model_values.specs.Token.{Tok, single}
use Rattle.model_values.specs.Row.{Row, key_cmp}
pub use Rattle.model_sets.specs.Values.{visible}

-- A live row counts 1, a dead one 2: a row only rises.
abbrev pub level : Bool → ℕ
level dead = if dead then 2 else 1

-- What one row says of a value and a token: its level where it is theirs, else 0.
abbrev pub row_mark : Row → Val → Tok → ℕ
row_mark r v t = if eq_by_cmp key_cmp (v, t) r.0 then level r.1 else 0

-- What rows say of a value and a token: 0 where no row is theirs, 1 where one is and none is dead, 2 where one is dead. The rows may stand in any order.
abbrev pub mark : List Row → Val → Tok → ℕ
mark [] v t = 0
mark (r ∷ s) v t = max (row_mark r v t) (mark s v t)

-- The value has a row with the token.
abbrev pub HasRow : List Row → Val → Tok → Type 0
HasRow s v t = 0 < mark s v t

-- The value has a dead row with the token.
abbrev pub IsDeadIn : List Row → Val → Tok → Type 0
IsDeadIn s v t = mark s v t ≡ 2

-- The keys of the rows strictly rise: what every state is.
abbrev pub IsAscending : List Row → Type 0
IsAscending s = IsTrue (is_sorted key_cmp s)

-- A row put where it belongs; at a row of its own key, dead where either is.
abbrev pub put : Row → List Row → List Row
put r [] = r ∷ []
put r (q ∷ s) = by_order (key_cmp r.0 q.0) (r ∷ q ∷ s) ((q.0, r.1 || q.1) ∷ s) (q ∷ put r s)

-- The state of any rows: ascending, one row a key, dead where one of them is.
abbrev pub of_rows : List Row → List Row
of_rows [] = []
of_rows (r ∷ s) = put r (of_rows s)

-- The join: the rows of either, dead where dead in either.
abbrev pub join : List Row → List Row → List Row
join s t = of_rows (s ++ t)

-- The order: each row of the first is in the second, and is dead there if it is dead in the first.
abbrev pub IsAtMost : List Row → List Row → Type 0
IsAtMost s t = (v : Val) (w : Tok) → mark s v w ≤ mark t v w

-- Whether a row is of a value.
abbrev pub is_of : Val → Row → Bool
is_of v r = eq_by_cmp val_cmp v r.0.0

-- A row, dead.
abbrev pub buried : Row → Row
buried r = (r.0, true)

-- What the k-th update of a replica joins in where it adds v: one live row with a fresh token.
abbrev pub add_delta : Val → ℕ → ℕ → List Row
add_delta v replica k = ((v, single replica k), false) ∷ []

-- What an update joins in where it removes v from s: the rows of v that stand in s, each dead.
abbrev pub remove_delta : Val → List Row → List Row
remove_delta v s = map buried (filter (is_of v) s)
