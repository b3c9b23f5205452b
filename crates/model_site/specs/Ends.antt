-- How a call of a site ends by its answer: its status, what it wrote to `out`, and its line on `err`.
use Rattle.std.specs.Prelude.{◌≡◌, ◌≢◌, ◌⊎◌, ℕ, List, Result, Ok, Err, codes, ◌∷◌, []}
use Rattle.model_values.specs.Faults.{Rose}
use Rattle.model_values.specs.Told.{Appends, AppendsPrefix}
use Rattle.model_world.specs.Line.{line}
use Rattle.model_program.specs.Ends.{Writing, Tells}
use Rattle.model_program.specs.Follows.{View}
use Rattle.model_program.specs.Plan.{word_at}
use Rattle.model_site.specs.Line.{status_of, line_of}
use Rattle.model_site.specs.Plan.{Answer, Plan, Comes}
use Rattle.model_site.specs.declared.site_failure.SiteFailure.{SiteFailure}
use Rattle.model_site.specs.declared.site_failure.SiteFailure.TheVariants.{Refused, ReadFault, Memory}

-- The bytes were written whole and nothing on `err`: status 0. Or a first part of them, where the count of faults of `out` rose: status 5.
-- A failure writes nothing to `out`, one line to `err`, and has its own status.
unfoldable pub Ends : List (List ℕ) → Result (List ℕ) SiteFailure → Writing → Writing → ℕ → Type 0
Ends words (Ok bytes) out err status =
    ((status ≡ 0) × Appends out.before bytes out.after × (err.after ≡ err.before))
    ⊎ ((status ≡ 5) × (bytes ≢ []) × Rose out.faults_before out.faults_after × AppendsPrefix out.before bytes out.after × Tells err (line (codes "write fault" ∷ [])))
Ends words (Err failure) out err status = (status ≡ status_of failure) × (out.after ≡ out.before) × Tells err (line_of words failure)

-- what a result is where the plan comes to this answer: that answer, want of memory, or a fault of one of the files
abbrev pub Settles : List (List ℕ) → View → Plan → Answer → Result (List ℕ) SiteFailure → Type 0
Settles words v p answer (Ok bytes) = answer ≡ Ok bytes
Settles words v p answer (Err (Refused e)) = answer ≡ Err e
Settles words v p answer (Err (ReadFault f)) = Comes v.content words p f × Rose (v.before (word_at words f)) (v.after (word_at words f))
Settles words v p answer (Err Memory) = Unit {0}

-- the count of a file to which the plan comes rose
abbrev pub MeetsFault : List (List ℕ) → View → Plan → Type 0
MeetsFault words v p = (f : ℕ) × Comes v.content words p f × Rose (v.before (word_at words f)) (v.after (word_at words f))

-- no count of a file to which the plan comes rose
abbrev pub NoFault : List (List ℕ) → View → Plan → Type 0
NoFault words v p = (f : ℕ) → Comes v.content words p f → ¬ Rose (v.before (word_at words f)) (v.after (word_at words f))

-- The statuses that a site ends with. None says that a threshold isn't reached: no read stands in a site's own script.
pub data IsSiteStatus : ℕ → Type 0 where
  done : IsSiteStatus 0
  usage : IsSiteStatus 1
  graph : IsSiteStatus 2
  script : IsSiteStatus 3
  file : IsSiteStatus 4
  output : IsSiteStatus 5
  limit : IsSiteStatus 6
  memory : IsSiteStatus 7
  state : IsSiteStatus 9
