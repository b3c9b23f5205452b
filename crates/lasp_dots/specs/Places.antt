-- The tests by which ascending rows are searched: which rows stand below a key or a value.
use Rattle.std.specs.Prelude.{Bool, not}
use Rattle.std.specs.Ordering.{is_lt, is_gt}
use Rattle.model_values.specs.Value.{Val, val_cmp}
use Rattle.model_values.specs.Row.{Key, Row, key_cmp}

-- the row is below the key
abbrev pub is_below : Key → Row → Bool
is_below k r = is_lt (key_cmp r.0 k)

-- the row's value is below the value
abbrev pub is_before : Val → Row → Bool
is_before v r = is_lt (val_cmp r.0.0 v)

-- the row's value isn't above the value
abbrev pub is_within : Val → Row → Bool
is_within v r = not (is_gt (val_cmp r.0.0 v))
