-- The status that a failure of a site ends with, and its line on standard error.
use Rattle.std.specs.Prelude.{ℕ, List, [], ◌∷◌, codes}
use Rattle.std.specs.Fmt.{decimal}
use Rattle.model_world.specs.Line.{line}
use Rattle.model_program.specs.Line.{refusal_status, refusal_words}
use Rattle.model_program.specs.Plan.{word_at}
use Rattle.model_site.specs.declared.site_refusal.SiteRefusal.{SiteRefusal}
use Rattle.model_site.specs.declared.site_refusal.SiteRefusal.TheVariants.{Shared, NotLocal, FileTooLarge, UpdatesFull}
use Rattle.model_site.specs.declared.site_failure.SiteFailure.{SiteFailure}
use Rattle.model_site.specs.declared.site_failure.SiteFailure.TheVariants.{Refused, ReadFault, Memory}

abbrev pub site_refusal_status : SiteRefusal → ℕ
site_refusal_status (Shared refusal) = refusal_status refusal
site_refusal_status (NotLocal number) = 3
site_refusal_status (FileTooLarge f node name) = 6
site_refusal_status (UpdatesFull number node) = 6

abbrev pub status_of : SiteFailure → ℕ
status_of (Refused refusal) = site_refusal_status refusal
status_of (ReadFault f) = 4
status_of Memory = 7

abbrev pub site_refusal_words : List (List ℕ) → SiteRefusal → List (List ℕ)
site_refusal_words words (Shared refusal) = refusal_words words refusal
site_refusal_words words (NotLocal number) = codes "script" ∷ decimal number ∷ codes "NotLocal" ∷ []
site_refusal_words words (FileTooLarge f node name) = codes "too large file" ∷ word_at words f ∷ decimal node ∷ name ∷ []
site_refusal_words words (UpdatesFull number node) = codes "updates full" ∷ decimal number ∷ decimal node ∷ []

abbrev pub failure_words : List (List ℕ) → SiteFailure → List (List ℕ)
failure_words words (Refused refusal) = site_refusal_words words refusal
failure_words words (ReadFault f) = codes "read fault" ∷ word_at words f ∷ []
failure_words words Memory = codes "out of memory" ∷ []

-- the one line that a failure writes on standard error
abbrev pub line_of : List (List ℕ) → SiteFailure → List ℕ
line_of words failure = line (failure_words words failure)
