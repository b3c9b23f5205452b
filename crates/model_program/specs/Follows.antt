-- What it means that a call follows its plan, though a read may fail and memory may be wanting.
use Rattle.std.specs.Prelude.{◌≡◌, ◌<◌, ◌≤◌, ◌⊎◌, ℕ, List, length, Option, Result, Ok, Err}
use Rattle.model_values.specs.Faults.{Rose}
use Rattle.model_values.specs.Told.{Sees}
use Rattle.model_program.specs.Plan.{IsText, Answer, Plan, Says, Reads, word_at}
use Rattle.model_program.specs.declared.refusal.Refusal.{Refusal}
use Rattle.model_program.specs.declared.failure.Failure.{Failure}
use Rattle.model_program.specs.declared.failure.Failure.TheVariants.{Refused, ReadFault, Memory}

-- what a call sees of the files: what is told of their contents by name, and each name's count of faults before and after
pub record View : Type 0 where
  pub content : List ℕ → Option (List ℕ)
  pub before : List ℕ → ℕ
  pub after : List ℕ → ℕ

abbrev pub view : (List ℕ → Option (List ℕ)) → (List ℕ → ℕ) → (List ℕ → ℕ) → View
view content before after = record { content = content; before = before; after = after }

-- a failure that the reading of file f may end with: a fault, where this file's own count rose, or want of memory
abbrev pub Fails : List (List ℕ) → View → ℕ → Result (List ℕ) Failure → Type 0
Fails words v f (Ok text) = ⊥
Fails words v f (Err (Refused e)) = ⊥
Fails words v f (Err (ReadFault e)) = (e ≡ f) × (f < length words) × Rose (v.before (word_at words f)) (v.after (word_at words f))
Fails words v f (Err Memory) = Unit {0}

-- the answer is a text, and these bytes are as it has to be
abbrev pub AllowsText : Answer → List ℕ → Type 0
AllowsText (Ok text) bytes = IsText text bytes
AllowsText (Err e) bytes = ⊥

-- the answer allows the result: a text as it has to be, its refusal, or want of memory
abbrev pub Allows : Answer → Result (List ℕ) Failure → Type 0
Allows answer (Ok bytes) = AllowsText answer bytes
Allows answer (Err (Refused e)) = answer ≡ Err e
Allows answer (Err (ReadFault f)) = ⊥
Allows answer (Err Memory) = Unit {0}

-- the result is what a function gives, or memory was wanting
abbrev pub Gives : {A B : Type 0} → (A → B) → Result B Refusal → Result A Failure → Type 0
Gives shown answer (Ok x) = answer ≡ Ok (shown x)
Gives shown answer (Err (Refused e)) = answer ≡ Err e
Gives shown answer (Err (ReadFault f)) = ⊥
Gives shown answer (Err Memory) = Unit {0}

-- the result is one to which the plan leads
unfoldable pub Follows : List (List ℕ) → View → Plan → Result (List ℕ) Failure → Type 0
Follows words v (Says answer) r = Allows answer r
Follows words v (Reads f next) r = Fails words v f r ⊎ ((bytes : List ℕ) × Sees (v.content (word_at words f)) bytes × Follows words v (next bytes) r)

-- the first call is a part of the second: it saw the same contents, and began later and ended earlier
pub record IsPartOf (v w : View) : Type 0 where
  pub content : (name : List ℕ) → v.content name ≡ w.content name
  pub before : (name : List ℕ) → w.before name ≤ v.before name
  pub after : (name : List ℕ) → v.after name ≤ w.after name

-- A part of a program: what it does with whatever comes after it.
abbrev pub Part : Type 0 → Type 0
Part B = (B → Plan) → Plan

-- a call that did the part and came to b: whoever follows from there on follows the whole
abbrev pub Passes : {B : Type 0} → List (List ℕ) → View → Part B → B → Type 0
Passes {B} words v part b = (w : View) → IsPartOf v w → (next : B → Plan) → (r : Result (List ℕ) Failure) → Follows words w (next b) r → Follows words w (part next) r

-- a call that came to its end in this part
abbrev pub Stops : {B : Type 0} → List (List ℕ) → View → Part B → Failure → Type 0
Stops {B} words v part failure = (w : View) → IsPartOf v w → (next : B → Plan) → Follows words w (part next) (Err failure)

-- the call did the part
abbrev pub Performs : {A B : Type 0} → (A → B) → List (List ℕ) → View → Part B → Result A Failure → Type 0
Performs shown words v part (Ok a) = Passes words v part (shown a)
Performs shown words v part (Err failure) = Stops words v part failure
