-- The thresholds that a read may wait for. Each is upward closed: what meets it still does after it grew.
use Rattle.std.specs.Prelude.{ℕ, ◌+◌, nat_le, ◌==◌, Bool, true, false, not, ◌&&◌, ◌||◌, List, length, sum}
use Rattle.std.specs.List.{list_any, list_all}
use Rattle.model_values.specs.Value.{Val}
use Rattle.model_sets.specs.Rows.{is_of}
use Rattle.model_sets.specs.Values.{held}
use Rattle.model_states.specs.Content.{Content, is_content_at_most}

-- what sort of content a variable has
pub data Shape : Type 0 where
  -- an observed-remove set or a process over sets
  set : Shape
  -- a grow-only set
  grow : Shape
  -- a counter of so many nodes
  counter : ℕ → Shape
  -- a register
  register : Shape
  -- a fold, which has the set that it covers
  fold : Shape

pub data Threshold : Type 0 where
  -- at least this content, of a variable of this shape
  AtLeast : Shape → Content → Threshold
  -- at least this content, and not the same
  Above : Shape → Content → Threshold
  -- so many elements, or so large a total
  Count : ℕ → Threshold
  -- each of the values has a row, or is an element
  Added : List Val → Threshold
  -- each of the values has a dead row
  Removed : List Val → Threshold

abbrev pub is_shape : Shape → Shape → Bool
is_shape set set = true
is_shape grow grow = true
is_shape (counter n) (counter m) = n == m
is_shape register register = true
is_shape fold fold = true
is_shape _ _ = false

-- the shapes that have rows: a fold is asked by the set that it covers
abbrev pub has_rows : Shape → Bool
has_rows set = true
has_rows fold = true
has_rows _ = false

-- the shapes that are counted
abbrev pub is_counted : Shape → Bool
is_counted grow = true
is_counted (counter n) = true
is_counted _ = false

-- the shapes that values are added to
abbrev pub has_values : Shape → Bool
has_values set = true
has_values fold = true
has_values grow = true
has_values _ = false

-- a variable of the shape may be asked for the threshold
abbrev pub suits : Threshold → Shape → Bool
suits (AtLeast shape t) s = is_shape shape s
suits (Above shape t) s = is_shape shape s
suits (Count k) s = is_counted s
suits (Added vs) s = has_values s
suits (Removed vs) s = has_rows s

-- how many elements a grow-only set has, or the total of a counter
abbrev pub counted : Content → ℕ
counted s = length s.values + sum s.counts

-- the value has a row, or is an element
abbrev pub is_added : Content → Val → Bool
is_added s v = list_any (is_of v) s.rows || (held s.values v == 1)

-- the value has a dead row
abbrev pub is_removed : Content → Val → Bool
is_removed s v = list_any (λ r. is_of v r && r.1) s.rows

-- the content is at the threshold
abbrev pub meets : Threshold → Content → Bool
meets (AtLeast shape t) s = is_content_at_most t s
meets (Above shape t) s = is_content_at_most t s && not (is_content_at_most s t)
meets (Count k) s = nat_le k (counted s)
meets (Added vs) s = list_all (is_added s) vs
meets (Removed vs) s = list_all (is_removed s) vs
