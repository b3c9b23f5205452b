-- Whose tokens are whose: each token was given by one add, and so belongs to one variable and one value. Where every row goes by this, one look at that variable tells whether the token is dead.
use Rattle.std.specs.Prelude.{◌≡◌, ℕ, zero, suc, ◌==◌, Bool, false, List, Option, Some, None, slice_index_or}
use Rattle.model_values.specs.Value.{Val}
use Rattle.model_values.specs.Token.{Tok, single, both}
use Rattle.model_values.specs.Row.{Row}
use Rattle.model_sets.specs.Rows.{mark, HasRow}
use Rattle.model_states.specs.Content.{Content, least}
use Rattle.model_graph.specs.Evaluation.{rows_at}
use Rattle.model_world.specs.Delta.{Delta, deltas_at}

-- no update brought this
abbrev pub no_delta : Delta
no_delta = record { var = 0; added = None; content = least }

-- a delta of replica q; the first has number 0
abbrev pub delta_at : List (List Delta) → ℕ → ℕ → Delta
delta_at all q j = slice_index_or (deltas_at all q) j no_delta

-- the token was given by an add of the value to the variable: update number k of replica q gives the token of q and k
abbrev pub IsOwnedBy : List (List Delta) → ℕ → Val → Tok → Type 0
IsOwnedBy all x v (single q zero) = ⊥
IsOwnedBy all x v (single q (suc j)) = ((delta_at all q j).var ≡ x) × ((delta_at all q j).added ≡ Some v)
IsOwnedBy all x v (both t s) = ⊥

-- every row of the variable has a token that was given to its value
abbrev pub AreOwned : List (List Delta) → ℕ → List Row → Type 0
AreOwned all x rows = (v : Val) (t : Tok) → HasRow rows v t → IsOwnedBy all x v t

-- the value that a delta added has a dead row with the token
abbrev pub is_dead_at : List Content → ℕ → Option Val → Tok → Bool
is_dead_at contents x None t = false
is_dead_at contents x (Some v) t = mark (rows_at contents x) v t == 2

-- the token is dead in these contents, looked up where it was given
abbrev pub is_dead_in : List (List Delta) → List Content → ℕ → ℕ → Bool
is_dead_in all contents q zero = false
is_dead_in all contents q (suc j) = is_dead_at contents (delta_at all q j).var (delta_at all q j).added (single q (suc j))
