-- What loops over rows compute: two states' rows side by side, and the order row by row. Their laws say that this is the join and the order.
use Rattle.std.specs.Prelude.{ℕ, Bool, not, ◌&&◌, if◌then◌else◌, List, [], ◌∷◌, filter}
use Rattle.std.specs.List.{list_all}
use Rattle.std.specs.FinMap.Entries.{by_order}
use Rattle.model_values.specs.Row.{Row, key_cmp}
use Rattle.model_states.specs.Counts.{are_counts_at_most}
use Rattle.model_dots.specs.Dots.{Dots, is_counted, outlives}

-- a row before the others, where these counts don't count its update
abbrev pub uncounted : List ℕ → Row → List Row → List Row
uncounted counts r rest = if is_counted counts r.0.1 then rest else r ∷ rest

-- a row beside the second list, where rest goes on with the rows after it
abbrev pub weave_row : List ℕ → List ℕ → Row → (List Row → List Row) → List Row → List Row
weave_row c d r rest [] = uncounted d r (rest [])
weave_row c d r rest (q ∷ t) = by_order (key_cmp r.0 q.0) (uncounted d r (rest (q ∷ t))) (r ∷ rest t) (uncounted c q (weave_row c d r rest t))

-- Two ascending lists of rows side by side, the first of counts c, the second of counts d: equal heads as one row, a head that stands alone where the other counts don't count its update.
abbrev pub weave : List ℕ → List ℕ → List Row → List Row → List Row
weave c d [] t = filter (λ q. not (is_counted c q.0.1)) t
weave c d (r ∷ s) t = weave_row c d r (weave c d s) t

-- whether no node counted more, and each row of the second outlives the join with the first
abbrev pub is_at_most : Dots → Dots → Bool
is_at_most s t = are_counts_at_most s.counts t.counts && list_all (λ r. outlives s r.0) t.rows
