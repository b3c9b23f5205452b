-- A plan of a site: an answer, or a file to read and how to go on with its bytes. The order of refusals is the nesting of a plan.
use Rattle.std.specs.Prelude.{◌≡◌, ◌⊎◌, ℕ, List, length, if◌then◌else◌, nat_lt, Option, Some, option_and_then, Result, Ok, Err}
use Rattle.model_program.specs.Plan.{file_limit, word_at}
use Rattle.model_program.specs.declared.refusal.Refusal.TheVariants.{TooLong}
use Rattle.model_site.specs.declared.site_refusal.SiteRefusal.{SiteRefusal}
use Rattle.model_site.specs.declared.site_refusal.SiteRefusal.TheVariants.{Shared}

-- the bytes to write, or a refusal
abbrev pub Answer : Type 0
Answer = Result (List ℕ) SiteRefusal

pub data Plan : Type 0 where
  Says : Answer → Plan
  -- the file is named by the place of its name among the words
  Reads : ℕ → (List ℕ → Plan) → Plan

-- goes on with what is there; a refusal ends the plan
abbrev pub checked : {A E : Type 0} → (E → SiteRefusal) → Result A E → (A → Plan) → Plan
checked refuse (Ok x) next = next x
checked refuse (Err e) next = Says (Err (refuse e))

-- goes on with what is answered
abbrev pub given : {A : Type 0} → Result A SiteRefusal → (A → Plan) → Plan
given answer next = checked (λ e. e) answer next

-- a file's bytes, or that there are too many
abbrev pub within : ℕ → List ℕ → Result (List ℕ) SiteRefusal
within f bytes = if nat_lt file_limit (length bytes) then Err (Shared (TooLong f)) else Ok bytes

abbrev pub reading : ℕ → (List ℕ → Plan) → Plan
reading f next = Reads f (λ bytes. given (within f bytes) next)

-- over these contents the plan comes to reading this file
unfoldable pub Comes : (List ℕ → Option (List ℕ)) → List (List ℕ) → Plan → ℕ → Type 0
Comes content words (Says answer) f = ⊥
Comes content words (Reads e next) f = (f ≡ e) ⊎ ((bytes : List ℕ) × (content (word_at words e) ≡ Some bytes) × Comes content words (next bytes) f)

-- what the plan comes to over these contents; None where it comes to a file of which nothing is told
unfoldable pub told_answer : (List ℕ → Option (List ℕ)) → List (List ℕ) → Plan → Option Answer
told_answer content words (Says answer) = Some answer
told_answer content words (Reads f next) = option_and_then (λ bytes. told_answer content words (next bytes)) (content (word_at words f))

-- each file to which the plan comes over these contents is told
abbrev pub AreTold : (List ℕ → Option (List ℕ)) → List (List ℕ) → Plan → Type 0
AreTold content words p = (f : ℕ) → Comes content words p f → (bytes : List ℕ) × (content (word_at words f) ≡ Some bytes)
