-- One file of a plan after the other, over told contents.
use Rattle.std.proofs.Common.{refl, ap, ◌∙◌}
use Rattle.std.specs.Prelude.{◌≡◌, ◌<◌, ◌≤◌, ℕ, List, length, Option, Some, option_and_then, Result, Ok, Err, Bool}
use Rattle.std.proofs.lemmas.Bool.{le-ltb, lt-ltb}
use Rattle.model_program.specs.Plan.{Answer, Plan, Says, checked, within, reading, file_limit, word_at, told_answer}
use Rattle.model_program.specs.declared.refusal.Refusal.{Refusal}
use Rattle.model_program.specs.declared.refusal.Refusal.TheVariants.{TooLong}
use Rattle.model_program.proofs.PlanLaws.{choice}

told-read : (content : List ℕ → Option (List ℕ)) (words : List (List ℕ)) (f : ℕ) (bytes : List ℕ) (next : List ℕ → Plan) → content (word_at words f) ≡ Some bytes
    → told_answer content words (reading f next) ≡ told_answer content words (checked (λ e. e) (within f bytes) next)
unfolding told_answer
told-read content words f bytes next told = ap (λ (seen : Option (List ℕ)). option_and_then (λ read. told_answer content words (checked (λ e. e) (within f read) next)) seen) told

pub told-short : (content : List ℕ → Option (List ℕ)) (words : List (List ℕ)) (f : ℕ) (bytes : List ℕ) (next : List ℕ → Plan) → content (word_at words f) ≡ Some bytes → length bytes ≤ file_limit
    → told_answer content words (reading f next) ≡ told_answer content words (next bytes)
told-short content words f bytes next told short =
    told-read content words f bytes next told
    ∙ ap (λ (long : Bool). told_answer content words (checked (λ e. e) (choice f bytes long) next)) (le-ltb file_limit (length bytes) short)

told-says : (content : List ℕ → Option (List ℕ)) (words : List (List ℕ)) (answer : Answer) → told_answer content words (Says answer) ≡ Some answer
unfolding told_answer
told-says content words answer = refl

pub told-long : (content : List ℕ → Option (List ℕ)) (words : List (List ℕ)) (f : ℕ) (bytes : List ℕ) (next : List ℕ → Plan) → content (word_at words f) ≡ Some bytes → file_limit < length bytes
    → told_answer content words (reading f next) ≡ Some (Err (TooLong f))
told-long content words f bytes next told long =
    told-read content words f bytes next told
    ∙ ap (λ (is_long : Bool). told_answer content words (checked (λ e. e) (choice f bytes is_long) next)) (lt-ltb file_limit (length bytes) long)
    ∙ told-says content words (Err (TooLong f))

-- what was read is looked at: it is accepted, or refused
pub told-checked : {A E : Type 0} (content : List ℕ → Option (List ℕ)) (words : List (List ℕ)) (refuse : E → Refusal) (read : Result A E) (a : A) (next : A → Plan) → read ≡ Ok a
    → told_answer content words (checked refuse read next) ≡ told_answer content words (next a)
told-checked content words refuse read a next e = ap (λ (r : Result _ _). told_answer content words (checked refuse r next)) e

pub told-refused : {A E : Type 0} (content : List ℕ → Option (List ℕ)) (words : List (List ℕ)) (refuse : E → Refusal) (read : Result A E) (e : E) (next : A → Plan) → read ≡ Err e
    → told_answer content words (checked refuse read next) ≡ Some (Err (refuse e))
told-refused content words refuse read e next h =
    ap (λ (r : Result _ _). told_answer content words (checked refuse r next)) h ∙ told-says content words (Err (refuse e))

pub told-answer : (content : List ℕ → Option (List ℕ)) (words : List (List ℕ)) (answer is : Answer) → answer ≡ is → told_answer content words (Says answer) ≡ Some is
told-answer content words answer is e = told-says content words answer ∙ ap (λ (a : Answer). Some a) e
