-- Steps one after the other, up to the first refusal.
use Rattle.std.specs.Prelude.{Result, Ok, Err, Bool, true, false, Option, Some, None}

infixl 10 ◌>>=◌
abbrev pub ◌>>=◌ : {A B E : Type 0} → Result A E → (A → Result B E) → Result B E
(Ok x) >>= f = f x
(Err e) >>= f = Err e

-- passes where the test holds
abbrev pub check : {E : Type 0} → Bool → E → Result (Unit {0}) E
check true e = Ok tt
check false e = Err e

-- what is there, or the refusal
abbrev pub or_else : {A E : Type 0} → Option A → E → Result A E
or_else (Some x) e = Ok x
or_else None e = Err e

-- a refusal said otherwise
abbrev pub refusing : {A E F : Type 0} → (E → F) → Result A E → Result A F
refusing f (Ok x) = Ok x
refusing f (Err e) = Err (f e)
