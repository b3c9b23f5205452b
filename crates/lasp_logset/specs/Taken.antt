-- Rows that come into a set one by one, and those of them that tell more.
use Rattle.std.specs.Prelude.{◌≡◌, ◌<◌, max, false, not, List, [], ◌∷◌, ◌++◌, filter}
use Rattle.model_values.specs.Value.{Val}
use Rattle.model_values.specs.Token.{Tok}
use Rattle.model_values.specs.Row.{Row}
use Rattle.model_sets.specs.Rows.{mark}
use Rattle.model_sets.specs.Rises.{AreRises, AreApart}

abbrev pub dead_of : List Row → List Row
dead_of rows = filter (λ r. r.1) rows

abbrev pub live_of : List Row → List Row
live_of rows = filter (λ r. not r.1) rows

-- the rows, dead ones first
abbrev pub dead_first : List Row → List Row
dead_first rows = dead_of rows ++ live_of rows

-- no row is dead
abbrev pub AreLive : List Row → Type 0
AreLive rows = (v : Val) (w : Tok) → mark rows v w < 2

-- no dead row comes behind a live one
abbrev pub AreDeadFirst : List Row → Type 0
AreDeadFirst [] = Unit {0}
AreDeadFirst (r ∷ rows) = (r.1 ≡ false → AreLive rows) × AreDeadFirst rows

-- rows came into a log, behind which those went that told more, no two of one key
pub record IsTaken (before rows log told : List Row) : Type 0 where
  pub grown : log ≡ before ++ told
  pub rises : AreRises before told
  pub apart : AreApart told
  pub whole : (v : Val) (w : Tok) → mark log v w ≡ max (mark before v w) (mark rows v w)

-- the rows up to those that are left came in
pub record IsTaking (before rows left log told : List Row) : Type 0 where
  pub grown : log ≡ before ++ told
  pub rises : AreRises before told
  pub apart : AreApart told
  pub whole : (v : Val) (w : Tok) → max (mark log v w) (mark left v w) ≡ max (mark before v w) (mark rows v w)
  pub order : AreDeadFirst left
  -- once a live row was told no dead one is left
  pub once : (v : Val) (w : Tok) → mark told v w ≡ 1 → AreLive left
