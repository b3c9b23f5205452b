-- What asking replicas came to.
use Rattle.std.specs.Prelude.{◌≡◌, ℕ, Result, Ok, Err}
use Rattle.lasp_replica.specs.Jobs.{counted_up}
use Rattle.lasp_workers.specs.declared.ask.Asked.{Asked}
use Rattle.lasp_workers.specs.declared.ask.Asked.TheVariants.{Finished, Waits, Done}
use Rattle.lasp_workers.specs.declared.round.Round.{Round}

-- how many jobs were finished by asking once
abbrev pub finished_by : Asked → ℕ
finished_by Finished = 1
finished_by Waits = 0
finished_by Done = 0

-- what was done is of as many jobs as the answer tells, and of none where memory was wanting
abbrev pub CountsAsked : {E : Type 0} → Result Asked E → (ℕ → Type 0) → Type 0
CountsAsked (Ok asked) P = P (finished_by asked)
CountsAsked (Err e) P = P 0

-- what was done is of so many jobs as the round tells, held at the greatest number of 64 bits
abbrev pub CountsUp : {E : Type 0} → Result Round E → (ℕ → Type 0) → Type 0
CountsUp (Ok round) P = (n : ℕ) × P n × (round.finished ≡ counted_up 0 n)
CountsUp (Err e) P = (n : ℕ) × P n
