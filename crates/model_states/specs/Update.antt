-- What an update joins into the state of its variable (observed-remove sets: Shapiro et al. 2011).
use Rattle.std.specs.Prelude.{ℕ, ℤ, [], ◌∷◌, Some}
use Rattle.model_values.specs.Value.{Val}
use Rattle.model_sets.specs.Rows.{add_delta, remove_delta}
use Rattle.model_states.specs.Counts.{inc_delta}
use Rattle.model_states.specs.Content.{Content, of_set, of_grow, of_counts, of_top}

-- an operation on a source variable
pub data Op : Type 0 where
  -- adds a value to an observed-remove set, under a fresh token
  Add : Val → Op
  -- removes a value from an observed-remove set, under the tokens that are seen
  Remove : Val → Op
  -- puts a value into a grow-only set
  Insert : Val → Op
  -- counts so many more
  Inc : ℕ → Op
  -- raises a register to at least this number
  Max : ℤ → Op
  -- joins a content of the same variable
  Join : Content → Op

-- what update number k of a replica joins into the state that it sees
abbrev pub delta : Op → Content → ℕ → ℕ → Content
delta (Add v) s replica k = of_set (add_delta v replica k)
delta (Remove v) s replica k = of_set (remove_delta v s.rows)
delta (Insert v) s replica k = of_grow (v ∷ [])
delta (Inc by) s replica k = of_counts (inc_delta s.counts replica by)
delta (Max n) s replica k = of_top (Some n)
delta (Join t) s replica k = t
