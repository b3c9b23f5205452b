-- How a call ends that has a text to write.
use Rattle.std.specs.Prelude.{◌≡◌, ◌≢◌, ◌⊎◌, ℕ, List, codes, ◌∷◌, []}
use Rattle.model_values.specs.Faults.{Rose}
use Rattle.model_values.specs.Told.{Appends, AppendsPrefix}
use Rattle.model_world.specs.Line.{line}
use Rattle.model_program.specs.Ends.{Writing, Tells}

-- The text was written whole and nothing on `err`: status 0. Or a first part of it, where there is something to write and the count of faults of `out` rose: status 5.
abbrev pub EndsWithText : List ℕ → Writing → Writing → ℕ → Type 0
EndsWithText text out err status =
    ((status ≡ 0) × Appends out.before text out.after × (err.after ≡ err.before))
    ⊎ ((status ≡ 5) × (text ≢ []) × Rose out.faults_before out.faults_after × AppendsPrefix out.before text out.after × Tells err (line (codes "write fault" ∷ [])))
