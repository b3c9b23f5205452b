-- Answers of calls that try once.
use Rattle.std.specs.Prelude.{Result, Ok, Err}
use Rattle.lasp_core.specs.declared.watched.Try.{Try}
use Rattle.lasp_core.specs.declared.watched.Try.TheVariants.{Busy, Refused}

-- the call had its replica, and this holds of what it answered
abbrev pub Tried : {A E : Type 0} → (Result A E → Type 0) → Result A (Try E) → Type 0
Tried P (Ok a) = P (Ok a)
Tried P (Err Busy) = Unit {0}
Tried P (Err (Refused e)) = P (Err e)

-- the call had its replica, and was refused
abbrev pub IfRefused : {A E : Type 0} → Result A (Try E) → (E → Type 0) → Type 0
IfRefused (Ok a) P = Unit {0}
IfRefused (Err Busy) P = Unit {0}
IfRefused (Err (Refused e)) P = P e
