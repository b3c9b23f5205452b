-- What a variable holds. There is one kind of data for all kinds of variables, so that order and join are total:
-- a variable uses the part of its own kind, and every other part stays least.
use Rattle.std.specs.Prelude.{ℕ, ℤ, ◌+◌, ◌≤◌, Bool, ◌&&◌, List, [], length, Option, None}
use Rattle.model_values.specs.Value.{Val}
use Rattle.model_values.specs.Token.{Tok}
use Rattle.model_values.specs.Row.{Row}
use Rattle.model_sets.specs.Rows.{mark, join, IsAscending}
use Rattle.model_sets.specs.Values.{held, unite, AreAscending}
use Rattle.model_sets.specs.Tests.{is_at_most, is_within}
use Rattle.model_states.specs.Counts.{count_at, larger, are_counts_at_most}
use Rattle.model_states.specs.Register.{later, reaches, is_not_later}

pub record Content : Type 0 where
  -- the rows of an observed-remove set, or of a process over sets
  pub rows : List Row
  -- the elements of a grow-only set
  pub values : List Val
  -- what each node counted of a counter
  pub counts : List ℕ
  -- the number of a register
  pub top : Option ℤ

-- what a variable holds before anything happened; a counter has a count for each node
abbrev pub least : Content
least = record { rows = []; values = []; counts = []; top = None }

-- the content of a set with these rows
abbrev pub of_set : List Row → Content
of_set rows = record { rows = rows; values = []; counts = []; top = None }

-- the content of a grow-only set with these elements
abbrev pub of_grow : List Val → Content
of_grow values = record { rows = []; values = values; counts = []; top = None }

-- the content of a counter with these counts
abbrev pub of_counts : List ℕ → Content
of_counts counts = record { rows = []; values = []; counts = counts; top = None }

-- the content of a register with this number
abbrev pub of_top : Option ℤ → Content
of_top top = record { rows = []; values = []; counts = []; top = top }

-- the least content that is above both
abbrev pub join_contents : Content → Content → Content
join_contents s t = record { rows = join s.rows t.rows; values = unite s.values t.values; counts = larger s.counts t.counts; top = later s.top t.top }

-- A content is read key by key, and each key has one number, which only rises.
pub data Key : Type 0 where
  -- a row of a value with a token
  at_row : Val → Tok → Key
  -- an element
  at_value : Val → Key
  -- a node's count
  at_count : ℕ → Key
  -- a number that the register may have reached
  at_top : ℤ → Key

abbrev pub content_mark : Content → Key → ℕ
content_mark s (at_row v t) = mark s.rows v t
content_mark s (at_value v) = held s.values v
content_mark s (at_count node) = count_at s.counts node
content_mark s (at_top n) = reaches s.top n

-- the order: at most at each key
abbrev pub IsContentAtMost : Content → Content → Type 0
IsContentAtMost s t = (k : Key) → content_mark s k ≤ content_mark t k

-- the order as a test
abbrev pub is_content_at_most : Content → Content → Bool
is_content_at_most s t = is_at_most s.rows t.rows && is_within s.values t.values && are_counts_at_most s.counts t.counts && is_not_later s.top t.top

-- rows and elements stand in order, each once: what every content of a replica is
pub record IsOrdered (s : Content) : Type 0 where
  pub rows : IsAscending s.rows
  pub values : AreAscending s.values

-- how many rows or elements it has, dead rows counted
abbrev pub size_of : Content → ℕ
size_of s = length s.rows + length s.values

-- the most rows or elements that a variable may have
abbrev pub row_limit : ℕ
row_limit = 65536
