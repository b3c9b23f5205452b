-- Answers of calls that may find their replica in another's hands.
use Rattle.std.specs.Prelude.{Result, Ok, Err}
use Rattle.lasp_core.specs.declared.watched.Try.{Try}
use Rattle.lasp_core.specs.declared.watched.Try.TheVariants.{Busy, Refused}

-- the replica was in another's hands
abbrev pub IsBusy : {A E : Type 0} → Result A (Try E) → Type 0
IsBusy (Ok a) = ⊥
IsBusy (Err Busy) = Unit {0}
IsBusy (Err (Refused e)) = ⊥
