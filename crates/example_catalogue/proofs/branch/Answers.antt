use Rattle.std.proofs.Common.{◌≡◌, ℕ, zero, suc, refl, ap, ◌∙◌}
use Rattle.std.specs.Prelude.{replicate, slice_index_or}
use Rattle.example_catalogue.proofs.branch.Goals as goal

all-zero : (n y : ℕ) → slice_index_or {A = ℕ} (replicate n 0) y 0 ≡ 0
all-zero zero y = refl
all-zero (suc n) zero = refl
all-zero (suc n) (suc y) = all-zero n y

-- a new core has a zero for each variable, and an update or a read that is opened leaves them
pub returns-2 : goal.returns-2
returns-2 c = λ y.
    let busy : c.open_read.new.self.busy ≡ c.in_ok-core.core.busy = ap (λ d. d.busy) c.in_ok-open_read.ensures.ok ∙ ap (λ d. d.busy) c.in_ok-update.ensures.ok in
    rw busy (rw c.in_ok-core.ensures (all-zero _ y))
