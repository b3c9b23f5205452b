-- Folds of a commutative group over the visible values, each value once, and a fold after a change from the fold before.
use Rattle.std.specs.Prelude.{◌≡◌, ◌==◌, Bool, if◌then◌else◌, IsTrue, List, filter, fold}
use Rattle.model_values.specs.Value.{Val}
use Rattle.model_values.specs.Row.{Row}
use Rattle.model_sets.specs.Values.{held, IsHeld, visible}

-- What an operation on members is: associative and commutative, with a neutral element and inverses.
pub record IsFoldGroup {A : Type 0} (member : A → Bool) (op : A → A → A) (neutral : A) (inverse : A → A) : Type 0 where
  pub neutral_in : IsTrue (member neutral)
  pub op_in : (a b : A) → IsTrue (member a) → IsTrue (member b) → IsTrue (member (op a b))
  pub inverse_in : (a : A) → IsTrue (member a) → IsTrue (member (inverse a))
  pub associative : (a b c : A) → IsTrue (member a) → IsTrue (member b) → IsTrue (member c) → op (op a b) c ≡ op a (op b c)
  pub commutative : (a b : A) → IsTrue (member a) → IsTrue (member b) → op a b ≡ op b a
  pub neutral_right : (a : A) → IsTrue (member a) → op a neutral ≡ a
  pub inverse_right : (a : A) → IsTrue (member a) → op a (inverse a) ≡ neutral

-- The lift of each value of the list is a member.
abbrev pub AreLifted : {A : Type 0} → (A → Bool) → (Val → A) → List Val → Type 0
AreLifted member lift s = (v : Val) → IsHeld s v → IsTrue (member (lift v))

-- The lifts of the values, combined in list order from the neutral element on.
abbrev pub fold_of : {A : Type 0} → (A → A → A) → A → (Val → A) → List Val → A
fold_of op neutral lift s = fold (λ a v. op a (lift v)) neutral s

-- The fold of a set state: each visible value once.
abbrev pub fold_set : {A : Type 0} → (A → A → A) → A → (Val → A) → List Row → A
fold_set op neutral lift x = fold_of op neutral lift (visible x)

-- The values of t that s lacks.
abbrev pub lacking : List Val → List Val → List Val
lacking s t = filter (λ v. held s v == 0) t

-- A fold corrected for one value: its lift where only t has it, the inverse of its lift where only s has it.
abbrev pub corrected : {A : Type 0} → (A → A → A) → (A → A) → (Val → A) → List Val → List Val → A → Val → A
corrected op inverse lift s t a v = if held s v == held t v then a else (if held s v == 0 then op a (lift v) else op a (inverse (lift v)))
