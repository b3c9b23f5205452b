-- A grow-only set as rows that are never removed, each under a token that no update has.
use Rattle.std.specs.Prelude.{◌≡◌, false, List, map}
use Rattle.model_values.specs.Value.{Val}
use Rattle.model_values.specs.Token.{Tok, single}
use Rattle.model_values.specs.Row.{Row}

-- updates are counted from 1, so this is none's
abbrev pub no_update : Tok
no_update = single 0 0

-- the row that keeps a value
abbrev pub member : Val → Row
member v = ((v, no_update), false)

-- the values that rows keep
abbrev pub values_of : List Row → List Val
values_of s = map (λ r. r.0.0) s

-- each row keeps a value
abbrev pub AreMembers : List Row → Type 0
AreMembers s = s ≡ map member (values_of s)
