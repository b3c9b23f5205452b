-- The five processes over set states: which rows each result has, and which of them are dead. Each is a plain comprehension over rows, made a state by `of_rows`.
use Rattle.std.specs.Prelude.{ℕ, max, Bool, ◌||◌, if◌then◌else◌, ◌==◌, nat_lt, List, map, filter, flat_map}
use Rattle.model_values.specs.Value.{Val, pair}
use Rattle.model_values.specs.Token.{Tok, both}
use Rattle.model_values.specs.Row.{Row}
use Rattle.model_sets.specs.Rows.{level, mark, of_rows, join, is_of}

-- A row with its value changed by f.
abbrev pub moved : (Val → Val) → Row → Row
moved f r = ((f r.0.0, r.0.1), r.1)

-- map by f: (f(u), t) for each row (u, t) of x; dead where any such row is dead.
abbrev pub map_set : (Val → Val) → List Row → List Row
map_set f x = of_rows (map (moved f) x)

-- filter by p: the rows of x whose value passes p.
abbrev pub filter_set : (Val → Bool) → List Row → List Row
filter_set p x = filter (λ r. p r.0.0) x

-- union: the rows of either, dead where dead in either.
abbrev pub union_set : List Row → List Row → List Row
union_set x y = join x y

-- Two rows as one: both values, both tokens, dead where either is.
abbrev pub paired : Row → Row → Row
paired r q = ((pair r.0.0 q.0.0, both r.0.1 q.0.1), r.1 || q.1)

-- product: each row of x with each row of y.
abbrev pub product_set : List Row → List Row → List Row
product_set x y = of_rows (flat_map (λ r. map (paired r) y) x)

-- Two rows of one value as one: the value, both tokens, dead where either is.
abbrev pub met : Row → Row → Row
met r q = ((r.0.0, both r.0.1 q.0.1), r.1 || q.1)

-- intersection: each row of x with each row of y that has its value.
abbrev pub intersect_set : List Row → List Row → List Row
intersect_set x y = of_rows (flat_map (λ r. map (met r) (filter (is_of r.0.0) y)) x)

-- What two marks make together: no row where either has none, else dead where either is.
abbrev pub both_of : ℕ → ℕ → ℕ
both_of m n = if m == 0 then 0 else (if n == 0 then 0 else max m n)

-- The mark of a product at any value and token, from those of its inputs.
abbrev pub product_mark : List Row → List Row → Val → Tok → ℕ
product_mark x y (pair v w) (both t s) = both_of (mark x v t) (mark y w s)
product_mark x y v t = 0

-- The mark of an intersection at any value and token, from those of its inputs.
abbrev pub intersect_mark : List Row → List Row → Val → Tok → ℕ
intersect_mark x y v (both t s) = both_of (mark x v t) (mark y v s)
intersect_mark x y v t = 0

-- The rows of t that are more than s has: those that s lacks, and those that are dead in t alone.
abbrev pub changed : List Row → List Row → List Row
changed s t = filter (λ r. nat_lt (mark s r.0.0 r.0.1) (level r.1)) t
