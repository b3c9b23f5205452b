-- How a call ends by its answer: its status, what it wrote to `out`, and its line on `err`.
use Rattle.std.specs.Prelude.{◌≡◌, ◌≢◌, ◌⊎◌, ℕ, List, Option, Result, Ok, Err, codes, ◌∷◌, []}
use Rattle.model_values.specs.Faults.{Rose}
use Rattle.model_values.specs.Told.{Appends, AppendsPrefix}
use Rattle.model_world.specs.Line.{line}
use Rattle.model_program.specs.Line.{status_of, line_of}
use Rattle.model_program.specs.Plan.{Answer, Plan, Comes, word_at}
use Rattle.model_program.specs.Follows.{View, AllowsText}
use Rattle.model_program.specs.declared.failure.Failure.{Failure}
use Rattle.model_program.specs.declared.failure.Failure.TheVariants.{Refused, ReadFault, Memory}

-- a sink over a call: what was written to it, where that is told, and its count of faults, before and after
pub record Writing : Type 0 where
  pub before : Option (List ℕ)
  pub after : Option (List ℕ)
  pub faults_before : ℕ
  pub faults_after : ℕ

abbrev pub writing : Option (List ℕ) → Option (List ℕ) → ℕ → ℕ → Writing
writing before after faults_before faults_after = record { before = before; after = after; faults_before = faults_before; faults_after = faults_after }

-- the text was written, or a first part of it where the sink's count of faults rose
abbrev pub Tells : Writing → List ℕ → Type 0
Tells s text = Appends s.before text s.after ⊎ (Rose s.faults_before s.faults_after × AppendsPrefix s.before text s.after)

-- The text was written whole and nothing on `err`: status 0. Or a first part of it, where there is something to write and the count of faults of `out` rose: status 5.
-- A failure writes nothing to `out`, one line to `err`, and has its own status.
unfoldable pub Ends : List (List ℕ) → Result (List ℕ) Failure → Writing → Writing → ℕ → Type 0
Ends words (Ok text) out err status =
    ((status ≡ 0) × Appends out.before text out.after × (err.after ≡ err.before))
    ⊎ ((status ≡ 5) × (text ≢ []) × Rose out.faults_before out.faults_after × AppendsPrefix out.before text out.after × Tells err (line (codes "write fault" ∷ [])))
Ends words (Err failure) out err status = (status ≡ status_of failure) × (out.after ≡ out.before) × Tells err (line_of words failure)

-- what a result is where the plan comes to this answer: one that it allows, or a fault of one of the files
abbrev pub Settles : List (List ℕ) → View → Plan → Answer → Result (List ℕ) Failure → Type 0
Settles words v p answer (Ok text) = AllowsText answer text
Settles words v p answer (Err (Refused e)) = answer ≡ Err e
Settles words v p answer (Err (ReadFault f)) = Comes v.content words p f × Rose (v.before (word_at words f)) (v.after (word_at words f))
Settles words v p answer (Err Memory) = Unit {0}

-- the count of a file to which the plan comes rose
abbrev pub MeetsFault : List (List ℕ) → View → Plan → Type 0
MeetsFault words v p = (f : ℕ) × Comes v.content words p f × Rose (v.before (word_at words f)) (v.after (word_at words f))

-- no count of a file to which the plan comes rose
abbrev pub NoFault : List (List ℕ) → View → Plan → Type 0
NoFault words v p = (f : ℕ) → Comes v.content words p f → ¬ Rose (v.before (word_at words f)) (v.after (word_at words f))
