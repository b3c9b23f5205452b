-- The values that came to be visible or ceased to be, from one set to another, and a fold corrected for them.
use Rattle.std.specs.Prelude.{◌≡◌, ℕ, ◌+◌, ◌*◌, ◌^◌, ◌≤◌, ◌==◌, ℤ, Bool, true, IsTrue, fold, length, if◌then◌else◌, List, [], ◌∷◌, Option, Some}
use Rattle.model_values.specs.Value.{Val}
use Rattle.model_values.specs.Row.{Row}
use Rattle.model_sets.specs.Values.{held}
use Rattle.model_sets.specs.Loops.{is_last}

-- the values of rows, live or dead, each once, but for the one looked at last
abbrev pub values_left : Option Val → List Row → List Val
values_left last [] = []
values_left last (r ∷ rows) = if is_last last r.0.0 then values_left last rows else r.0.0 ∷ values_left (Some r.0.0) rows

-- the values of a list that only one of two sets has, each with whether it is the second
abbrev pub turns : List Val → List Val → List Val → List (Val × Bool)
turns s t [] = []
turns s t (v ∷ vs) = if held s v == held t v then turns s t vs else (v, held t v == 1) ∷ turns s t vs

-- a fold corrected for one value: by its lift where it came, by the inverse of its lift where it went
abbrev pub turned : (ℤ → ℤ → ℤ) → (ℤ → ℤ) → (Val → ℤ) → ℤ → Val × Bool → ℤ
turned combined undone lift a turn = if turn.1 then combined a (lift turn.0) else combined a (undone (lift turn.0))

-- how far a fold has come along the values that are left of a pass: the number is a member, small enough for them all, and gives the whole
pub record IsAlong (member : ℤ → Bool) (size : ℤ → ℕ) (step : ℤ → Val × Bool → ℤ) (total : ℤ) (left : List (Val × Bool)) (whole : ℤ) : Type 0 where
  pub in_group : IsTrue (member total)
  pub small : size total + 2 ^ 63 * length left ≤ 2 ^ 99
  pub rest : fold step total left ≡ whole

-- a value that came
abbrev pub arrived : Val → Val × Bool
arrived v = (v, true)
