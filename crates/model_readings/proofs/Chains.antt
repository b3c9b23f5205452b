-- What a chain of steps that passed says of each step.
use Rattle.std.proofs.Common.{◌≡◌, refl, Bool, true, false, Option, Some, None, Result, Ok, Err}
use Rattle.model_graph.specs.Chain.{◌>>=◌, check, or_else, refusing}
pub use Rattle.model_graph.proofs.ChainLaws.{Passed, passed}

pub check_passed : {B E : Type 0} (b : Bool) (e : E) (f : Unit {0} → Result B E) (y : B) → (check b e >>= f) ≡ Ok y → (b ≡ true) × (f tt ≡ Ok y)
check_passed true e f y h = (refl, h)
check_passed false e f y h = cc

pub or_else_passed : {A E : Type 0} (o : Option A) (e : E) (x : A) → or_else o e ≡ Ok x → o ≡ Some x
or_else_passed (Some y) e x h = cc
or_else_passed None e x h = cc

pub refusing_passed : {A E F : Type 0} (f : E → F) (r : Result A E) (x : A) → refusing f r ≡ Ok x → r ≡ Ok x
refusing_passed f (Ok y) x h = cc
refusing_passed f (Err e) x h = cc
