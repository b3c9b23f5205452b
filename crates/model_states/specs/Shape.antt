-- Which part of a content a variable of a shape uses.
use Rattle.std.specs.Prelude.{◌≡◌, length}
use Rattle.model_states.specs.Content.{Content, of_set, of_grow, of_counts, of_top}
use Rattle.model_states.specs.Threshold.{Shape, set, grow, counter, register, fold}

-- the content has nothing but the part of its shape, a counter with one count for each node
abbrev pub HasShape : Shape → Content → Type 0
HasShape set s = s ≡ of_set s.rows
HasShape grow s = s ≡ of_grow s.values
HasShape (counter nodes) s = (s ≡ of_counts s.counts) × (length s.counts ≡ nodes)
HasShape register s = s ≡ of_top s.top
HasShape fold s = s ≡ of_set s.rows
