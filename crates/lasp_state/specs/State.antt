-- States and operations as plain data.
use Rattle.std.specs.Prelude.{◌≡◌, ◌≢◌, ℕ, ℤ, pos, ◌<◌, ◌⊎◌, List, length, sum, if◌then◌else◌}
use Rattle.std.specs.Arc.{arc_value}
use Rattle.std.specs.Fmt.{decimal, signed_decimal}
use Rattle.model_values.specs.Text.{shown_values}
use Rattle.model_sets.specs.Rows.{visible}
use Rattle.model_states.specs.Content.{Content, of_set, of_grow, of_counts, of_top, IsContentAtMost, is_content_at_most}
use Rattle.model_states.specs.Threshold.{Shape, set, grow, counter, register, fold}
use Rattle.model_states.specs.Update as plain
use Rattle.model_world.specs.Line.{shown_top}
use Rattle.lasp_value.specs.Value.{val_of}
use Rattle.lasp_state.specs.declared.state.State.{State}
use Rattle.lasp_state.specs.declared.state.State.TheVariants.{Set, Grow, Count, Max, Fold}
use Rattle.lasp_state.specs.declared.op.Op.{Op}
use Rattle.lasp_state.specs.declared.op.Op.TheVariants as op

-- what a state holds
abbrev pub content_of : State → Content
content_of (Set rows) = of_set rows
content_of (Grow values) = of_grow values
content_of (Count counts) = of_counts counts
content_of (Max m) = of_top m.value
content_of (Fold rows n) = of_set rows

-- what sort of content it has
abbrev pub shape_of : State → Shape
shape_of (Set rows) = set
shape_of (Grow values) = grow
shape_of (Count counts) = counter (length counts)
shape_of (Max m) = register
shape_of (Fold rows n) = fold

-- a fold's number; 0 of the others
abbrev pub number_of : State → ℤ
number_of (Set rows) = pos 0
number_of (Grow values) = pos 0
number_of (Count counts) = pos 0
number_of (Max m) = pos 0
number_of (Fold rows n) = n

-- of two folds one covers the other
abbrev pub AreNested : Shape → Content → Content → Type 0
AreNested shape s t = shape ≡ fold → IsContentAtMost s t ⊎ IsContentAtMost t s

-- states that may be joined: of one shape, folds where one covers the other
pub record AreJoinable (s t : State) : Type 0 where
  pub shape : shape_of s ≡ shape_of t
  pub nested : AreNested (shape_of s) (content_of s) (content_of t)

-- the number of the content with the other one joined in: the other's where it grew, else its own
abbrev pub number_after : Content → ℤ → Content → ℤ → ℤ
number_after s own t theirs = if is_content_at_most t s then own else theirs

abbrev pub joined_number : State → State → ℤ
joined_number s t = number_after (content_of s) (number_of s) (content_of t) (number_of t)

-- how it is printed
abbrev pub shown_state : State → List ℕ
shown_state (Set rows) = shown_values (visible rows)
shown_state (Grow values) = shown_values values
shown_state (Count counts) = decimal (sum counts)
shown_state (Max m) = shown_top m.value
shown_state (Fold rows n) = signed_decimal n

abbrev pub op_of : Op → plain.Op
op_of (op.Add v) = plain.Add (val_of v)
op_of (op.Remove v) = plain.Remove (val_of v)
op_of (op.Insert v) = plain.Insert (val_of v)
op_of (op.Inc by) = plain.Inc by
op_of (op.Max n) = plain.Max n
op_of (op.Join s) = plain.Join (content_of (arc_value s))

-- the operation is one of the shape; a counter has a count for the replica, and a state that is joined in is one of this shape and no fold
abbrev pub IsOpOf : Op → ℕ → Shape → Type 0
IsOpOf (op.Add v) replica shape = shape ≡ set
IsOpOf (op.Remove v) replica shape = shape ≡ set
IsOpOf (op.Insert v) replica shape = shape ≡ grow
IsOpOf (op.Inc by) replica shape = (nodes : ℕ) × (shape ≡ counter nodes) × (replica < nodes)
IsOpOf (op.Max n) replica shape = shape ≡ register
IsOpOf (op.Join s) replica shape = (shape_of (arc_value s) ≡ shape) × (shape ≢ fold)
