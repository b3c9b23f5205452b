-- Which failure it is.
use Rattle.std.specs.Prelude.{◌≡◌}
use Rattle.model_program.specs.declared.refusal.Refusal.{Refusal}
use Rattle.model_program.specs.declared.failure.Failure.{Failure}
use Rattle.model_program.specs.declared.failure.Failure.TheVariants.{Refused, ReadFault, Memory}

-- the failure is this refusal, or memory was wanting
abbrev pub IsRefusal : Refusal → Failure → Type 0
IsRefusal expected (Refused refusal) = refusal ≡ expected
IsRefusal expected (ReadFault f) = ⊥
IsRefusal expected Memory = Unit {0}
