-- What it means that a call follows its plan, though a read may fail and memory may be wanting.
use Rattle.std.specs.Prelude.{◌≡◌, ◌<◌, ◌⊎◌, ℕ, List, length, Result, Ok, Err}
use Rattle.model_values.specs.Faults.{Rose}
use Rattle.model_values.specs.Told.{Sees}
use Rattle.model_program.specs.Follows.{View, IsPartOf}
use Rattle.model_program.specs.Plan.{word_at}
use Rattle.model_site.specs.Plan.{Answer, Plan, Says, Reads}
use Rattle.model_site.specs.declared.site_refusal.SiteRefusal.{SiteRefusal}
use Rattle.model_site.specs.declared.site_failure.SiteFailure.{SiteFailure}
use Rattle.model_site.specs.declared.site_failure.SiteFailure.TheVariants.{Refused, ReadFault, Memory}

-- a failure that the reading of file f may end with: a fault, where this file's own count rose, or want of memory
abbrev pub Fails : List (List ℕ) → View → ℕ → Result (List ℕ) SiteFailure → Type 0
Fails words v f (Ok text) = ⊥
Fails words v f (Err (Refused e)) = ⊥
Fails words v f (Err (ReadFault e)) = (e ≡ f) × (f < length words) × Rose (v.before (word_at words f)) (v.after (word_at words f))
Fails words v f (Err Memory) = Unit {0}

-- the result is what a function gives, or memory was wanting
abbrev pub Gives : {A B : Type 0} → (A → B) → Result B SiteRefusal → Result A SiteFailure → Type 0
Gives shown answer (Ok x) = answer ≡ Ok (shown x)
Gives shown answer (Err (Refused e)) = answer ≡ Err e
Gives shown answer (Err (ReadFault f)) = ⊥
Gives shown answer (Err Memory) = Unit {0}

-- the answer allows the result: its bytes, its refusal, or want of memory
abbrev pub Allows : Answer → Result (List ℕ) SiteFailure → Type 0
Allows answer result = Gives (λ bytes. bytes) answer result

-- the result is one to which the plan leads
unfoldable pub Follows : List (List ℕ) → View → Plan → Result (List ℕ) SiteFailure → Type 0
Follows words v (Says answer) r = Allows answer r
Follows words v (Reads f next) r = Fails words v f r ⊎ ((bytes : List ℕ) × Sees (v.content (word_at words f)) bytes × Follows words v (next bytes) r)

-- A part of a plan: what is done with whatever comes after it.
abbrev pub Part : Type 0 → Type 0
Part B = (B → Plan) → Plan

-- a call that did the part and came to b: whoever follows from there on follows the whole
abbrev pub Passes : {B : Type 0} → List (List ℕ) → View → Part B → B → Type 0
Passes {B} words v part b = (w : View) → IsPartOf v w → (next : B → Plan) → (r : Result (List ℕ) SiteFailure) → Follows words w (next b) r → Follows words w (part next) r

-- a call that came to its end in this part
abbrev pub Stops : {B : Type 0} → List (List ℕ) → View → Part B → SiteFailure → Type 0
Stops {B} words v part failure = (w : View) → IsPartOf v w → (next : B → Plan) → Follows words w (part next) (Err failure)

-- the call did the part
abbrev pub Performs : {A B : Type 0} → (A → B) → List (List ℕ) → View → Part B → Result A SiteFailure → Type 0
Performs shown words v part (Ok a) = Passes words v part (shown a)
Performs shown words v part (Err failure) = Stops words v part failure
