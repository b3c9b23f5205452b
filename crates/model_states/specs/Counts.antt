-- What a counter counted, as one count for each node.
use Rattle.std.specs.Prelude.{ℕ, ◌+◌, ◌≤◌, min, max, nat_le, Bool, true, ◌&&◌, List, [], ◌∷◌, length, replicate, slice_index_or, slice_set}

-- the most that one node can count: 100,000 updates of at most 2^32 - 1 each
abbrev pub count_max : ℕ
count_max = 429496729500000

-- what a node counted
abbrev pub count_at : List ℕ → ℕ → ℕ
count_at counts node = slice_index_or counts node 0

-- nobody counted yet
abbrev pub zeros : ℕ → List ℕ
zeros nodes = replicate nodes 0

-- the join: node by node the larger count
abbrev pub larger : List ℕ → List ℕ → List ℕ
larger [] t = t
larger (c ∷ s) [] = c ∷ s
larger (c ∷ s) (d ∷ t) = max c d ∷ larger s t

-- the order: no node counted more
abbrev pub AreCountsAtMost : List ℕ → List ℕ → Type 0
AreCountsAtMost s t = (node : ℕ) → count_at s node ≤ count_at t node

-- the order as a test
abbrev pub are_counts_at_most : List ℕ → List ℕ → Bool
are_counts_at_most [] t = true
are_counts_at_most (c ∷ s) [] = nat_le c 0 && are_counts_at_most s []
are_counts_at_most (c ∷ s) (d ∷ t) = nat_le c d && are_counts_at_most s t

-- what an update of a node joins in: its own count so far and so many more, held at the most that it can count, and zeros of the others
abbrev pub inc_delta : List ℕ → ℕ → ℕ → List ℕ
inc_delta counts node by = slice_set (zeros (length counts)) node (min (count_at counts node + by) count_max)
