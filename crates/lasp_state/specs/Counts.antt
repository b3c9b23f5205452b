-- The counts of a counter of bounded size, their join and their order.
use Rattle.std.specs.Prelude.{◌≡◌, ℕ, ◌≤◌, ◌<◌, max, List, length}
use Rattle.model_states.specs.Counts.{count_max, count_at}
use Rattle.lasp_value.specs.Places.{joined_places}

-- what every counter is: of at most 255 nodes, none of which counted more than it can
pub record AreCounts (counts : List ℕ) : Type 0 where
  pub few : length counts < 256
  pub small : (node : ℕ) → count_at counts node ≤ count_max

-- the join: node by node the larger count
abbrev pub larger : List ℕ → List ℕ → List ℕ
larger = joined_places max

-- the order: no node counted more
abbrev pub AreAtMost : List ℕ → List ℕ → Type 0
AreAtMost s t = (node : ℕ) → count_at s node ≤ count_at t node

abbrev pub HaveSameNodes : List ℕ → List ℕ → Type 0
HaveSameNodes s t = length s ≡ length t
