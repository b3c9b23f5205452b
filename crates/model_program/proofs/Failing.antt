-- Where a chain of steps fails.
use Rattle.std.proofs.Common.{refl, ap}
use Rattle.std.specs.Prelude.{◌≡◌, ◌≢◌, ◌↔◌, Bool, true, false, Option, Some, None, Result, Ok, Err}
use Rattle.model_graph.specs.Chain.{◌>>=◌, check, or_else}

-- where what comes after never fails so, a chain fails so exactly where its first step does
pub fails-first : {A B E : Type 0} (r : Result A E) (f : A → Result B E) (e : E) → ((a : A) → f a ≢ Err e) → ((r >>= f) ≡ Err e ↔ r ≡ Err e)
fails-first (Ok a) f e later = (λ h. absurd (later a h), λ h. absurd cc)
fails-first {B} (Err w) f e later = (λ h. let same : w ≡ e = cc in ap (λ (x : _). Err x) same, λ h. let same : w ≡ e = cc in ap (λ (x : _). Err x) same)

pub check-fails : {E : Type 0} (b : Bool) (e : E) → (check b e ≡ Err e ↔ b ≡ false)
check-fails true e = (λ h. absurd cc, λ h. absurd cc)
check-fails false e = (λ h. refl, λ h. refl)

pub or_else-fails : {A E : Type 0} (o : Option A) (e : E) → (or_else o e ≡ Err e ↔ o ≡ None)
or_else-fails (Some a) e = (λ h. absurd cc, λ h. absurd cc)
or_else-fails None e = (λ h. refl, λ h. refl)
