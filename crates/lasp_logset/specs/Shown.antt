-- What passes over values leave out and put out: those that repeat the one before, whether the others ascend, and their text.
use Rattle.std.specs.Prelude.{ℕ, Bool, true, ◌&&◌, if◌then◌else◌, List, [], ◌∷◌, ◌++◌, Option, Some, None}
use Rattle.std.specs.Ordering.{is_eq, is_lt}
use Rattle.std.specs.declared.cmp.Ordering.{Ordering}
use Rattle.std.specs.declared.cmp.Ordering.TheVariants.{Less}
use Rattle.model_values.specs.Value.{Val, val_cmp}
use Rattle.model_values.specs.Text.{shown}

-- how the value before compares with the next; the first is behind nothing
abbrev pub order_behind : Option Val → Val → Ordering
order_behind None v = Less
order_behind (Some u) v = val_cmp u v

-- the values that differ from the one before them
abbrev pub thinned : Option Val → List Val → List Val
thinned last [] = []
thinned last (v ∷ s) = if is_eq (order_behind last v) then thinned last s else v ∷ thinned (Some v) s

-- whether these ascend
abbrev pub rises : Option Val → List Val → Bool
rises last [] = true
rises last (v ∷ s) = if is_eq (order_behind last v) then rises last s else (is_lt (order_behind last v) && rises (Some v) s)

-- a value's text, behind a comma where it isn't the first
abbrev pub shown_next : Bool → Val → List ℕ
shown_next behind v = if behind then 44 ∷ shown v else shown v

-- the text of values, up to the bracket at the end
abbrev pub shown_rest : Bool → List Val → List ℕ
shown_rest behind [] = 93 ∷ []
shown_rest behind (v ∷ s) = shown_next behind v ++ shown_rest true s
