-- Failures of what both programs do, as a site's.
use Rattle.std.specs.Prelude.{◌≡◌, ℕ, List, Result, Ok, Err}
use Rattle.std.specs.declared.vec.Vec.{Vec}
use Rattle.model_program.specs.declared.failure.Failure.{Failure}
use Rattle.model_program.specs.declared.failure.Failure.TheVariants as shared
use Rattle.model_site.specs.declared.site_refusal.SiteRefusal.{SiteRefusal}
use Rattle.model_site.specs.declared.site_refusal.SiteRefusal.TheVariants.{Shared}
use Rattle.model_site.specs.declared.site_failure.SiteFailure.{SiteFailure}
use Rattle.model_site.specs.declared.site_failure.SiteFailure.TheVariants.{Refused, ReadFault, Memory}

-- a failure of `lasp`, as a site's
abbrev pub as_site : Failure → SiteFailure
as_site (shared.Refused refusal) = Refused (Shared refusal)
as_site (shared.ReadFault f) = ReadFault f
as_site shared.Memory = Memory

-- the failure is this refusal, or memory was wanting
abbrev pub IsRefusal : SiteRefusal → SiteFailure → Type 0
IsRefusal expected (Refused refusal) = refusal ≡ expected
IsRefusal expected (ReadFault f) = ⊥
IsRefusal expected Memory = Unit {0}

-- the state to write, as its bytes, or why there is none
abbrev pub answered : {A : Type 0} → Result (Vec ℕ A) SiteFailure → Result (List ℕ) SiteFailure
answered (Ok text) = Ok text.items
answered (Err failure) = Err failure
