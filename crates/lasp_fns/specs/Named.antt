-- Functions under names, in order, and how one is found.
use Rattle.std.specs.Prelude.{ℕ, Bool, List, Option, position, slice_get}
use Rattle.std.specs.Option.{option_map}
use Rattle.std.specs.List.{list_any}
use Rattle.std.specs.Str.{bytes_eq}

-- whether one stands under the name
abbrev pub is_named : {A : Type 0} → List ℕ → List (List ℕ × A) → Bool
is_named name fs = list_any (λ f. bytes_eq name f.0) fs

-- the place of the one that stands under the name
abbrev pub place_named : {A : Type 0} → List ℕ → List (List ℕ × A) → Option ℕ
place_named name fs = position (λ f. bytes_eq name f.0) fs

-- the one at a place
abbrev pub item_at : {A : Type 0} → List (List ℕ × A) → ℕ → Option A
item_at fs i = option_map (λ f. f.1) (slice_get fs i)
