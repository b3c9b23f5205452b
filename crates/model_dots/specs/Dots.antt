-- The state of a set without tombstones (Bieniusa et al. 2012): its live rows, and how many updates of each node it counts. A removed row isn't kept: that its token is counted and the row isn't there tells that it was removed.
use Rattle.std.specs.Prelude.{◌≡◌, ℕ, ◌+◌, ◌≤◌, Bool, false, not, ◌||◌, nat_le, nat_lt, true, if◌then◌else◌, ◌==◌, List, [], length, filter, slice_set, refl}
use Rattle.std.specs.Coded.{Coded, code_by, coded×, coded_ℕ, coded_list}
use Rattle.model_values.specs.Value.{Val}
use Rattle.model_values.specs.Token.{Tok, single, both}
use Rattle.model_values.specs.Row.{Key, Row, coded_rows}
use Rattle.model_sets.specs.Rows.{mark, HasRow, IsAscending, put, join, is_of}
use Rattle.model_states.specs.Counts.{count_at, zeros, larger}

-- live rows, and one count for each node
pub record Dots : Type 0 where
  pub rows : List Row
  pub counts : List ℕ

-- the most nodes, and the most updates of one node
abbrev pub node_limit : ℕ
node_limit = 8

abbrev pub count_limit : ℕ
count_limit = 100000

-- whether the token is of an update that is counted
abbrev pub is_counted : List ℕ → Tok → Bool
is_counted counts (single q k) = nat_le k (count_at counts q)
is_counted counts (both t s) = false

-- the token is that of a counted update, which have numbers from 1 on
abbrev pub IsGiven : List ℕ → Tok → Type 0
IsGiven counts (single q k) = (1 ≤ k) × (k ≤ count_at counts q)
IsGiven counts (both t s) = ⊥

-- each row has the token of a counted update
abbrev pub AreGiven : List Row → List ℕ → Type 0
AreGiven rows counts = (v : Val) (t : Tok) → HasRow rows v t → IsGiven counts t

-- what every state is: ascending live rows, each with the token of a counted update, and small counts of 1 to 8 nodes
pub record IsState (s : Dots) : Type 0 where
  pub ascends : IsAscending s.rows
  pub live : (v : Val) (t : Tok) → mark s.rows v t ≤ 1
  pub given : AreGiven s.rows s.counts
  pub some : 1 ≤ length s.counts
  pub few : length s.counts ≤ node_limit
  pub small : (node : ℕ) → count_at s.counts node ≤ count_limit

-- equally many nodes
abbrev pub HaveSameNodes : Dots → Dots → Type 0
HaveSameNodes s t = length s.counts ≡ length t.counts

-- nobody updated anything
abbrev pub no_dots : ℕ → Dots
no_dots nodes = record { rows = []; counts = zeros nodes }

-- whether a row of another state outlives the join with this one: this one has it, too, or doesn't count its update
abbrev pub outlives : Dots → Key → Bool
outlives s k = not (is_counted s.counts k.1) || nat_lt 0 (mark s.rows k.0 k.1)

-- the rows of the first that outlive the join with the second
abbrev pub kept : Dots → Dots → List Row
kept s t = filter (λ r. outlives t r.0) s.rows

-- the join: the rows that are in both, and those in one whose update the other doesn't count; node by node the larger count
abbrev pub join_dots : Dots → Dots → Dots
join_dots s t = record { rows = join (kept s t) (kept t s); counts = larger s.counts t.counts }

-- the order: the join is the greater one
abbrev pub IsAtMost : Dots → Dots → Type 0
IsAtMost s t = join_dots s t ≡ t

-- the counts after one more update of a node
abbrev pub raised : List ℕ → ℕ → List ℕ
raised counts node = slice_set counts node (count_at counts node + 1)

-- a node adds a value: one more row, with the token of this update
abbrev pub add_dot : Val → ℕ → Dots → Dots
add_dot v node s = record { rows = put ((v, single node (count_at s.counts node + 1)), false) s.rows; counts = raised s.counts node }

-- a node removes a value: all its rows go
abbrev pub remove_dots : Val → ℕ → Dots → Dots
remove_dots v node s = record { rows = filter (λ r. not (is_of v r)) s.rows; counts = raised s.counts node }

-- What a state says of a value and a token: 0 where it doesn't count the update, 1 where it has the row, 2 where it counts the update and hasn't the row: the token was removed, or never given to this value.
abbrev pub dot_mark : Dots → Val → Tok → ℕ
dot_mark s v t = if is_counted s.counts t then (if mark s.rows v t == 0 then 2 else 1) else 0

-- what a node of rows and counts is as a set without tombstones: its live rows, and its counts
abbrev pub dots_of : List Row → List ℕ → Dots
dots_of rows counts = record { rows = filter (λ r. not r.1) rows; counts = counts }

-- rows and counts have each row of others whose update they count
abbrev pub HasWhatIsCounted : List Row → List ℕ → List Row → Type 0
HasWhatIsCounted rows counts others = (v : Val) (t : Tok) → HasRow others v t → is_counted counts t ≡ true → HasRow rows v t

-- the code of states
abbrev pub coded_dots : Coded Dots
coded_dots = code_by (List Row × List ℕ) (coded× coded_rows (coded_list coded_ℕ)) (λ s. (s.rows, s.counts)) (λ p. record { rows = p.0; counts = p.1 }) (λ _. refl)
