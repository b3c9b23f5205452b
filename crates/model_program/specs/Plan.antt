-- A plan: an answer, or a file to read and how to go on with its bytes. The order of refusals is the nesting of a plan.
use Rattle.std.specs.Prelude.{◌≡◌, ◌⊎◌, ℕ, List, length, if◌then◌else◌, nat_lt, Option, Some, option_and_then, Result, Ok, Err, slice_index_or, []}
use Rattle.model_graph.specs.Graph.{Decl}
use Rattle.model_world.specs.Command.{Script}
use Rattle.model_world.specs.World.{Run}
use Rattle.model_core.specs.Traced.{IsTrace}
use Rattle.model_live.specs.Lived.{IsLived}
use Rattle.model_program.specs.declared.refusal.Refusal.{Refusal}
use Rattle.model_program.specs.declared.refusal.Refusal.TheVariants.{TooLong}

-- What a text has to be. Where one text alone is lawful, it is told; a command that has many lawful texts has a constructor of its own, with what decides which they are.
pub data Text : Type 0 where
  Exactly : List ℕ → Text
  -- a trace of this script's run over this graph, which came to this end
  Traced : List Decl → Script → Run → Text
  -- what nodes of this script over this graph went through beside each other, and the first command at which one failed, if one did
  Lived : List Decl → Script → Option ℕ → Text

-- these bytes are such a text
abbrev pub IsText : Text → List ℕ → Type 0
IsText (Exactly text) bytes = bytes ≡ text
IsText (Traced g script run) bytes = IsTrace g script run bytes
IsText (Lived g script failed) bytes = IsLived g script failed bytes

-- what the text to write has to be, or a refusal
abbrev pub Answer : Type 0
Answer = Result Text Refusal

-- the answer where one text alone is lawful
abbrev pub exactly : Result (List ℕ) Refusal → Answer
exactly (Ok text) = Ok (Exactly text)
exactly (Err refusal) = Err refusal

pub data Plan : Type 0 where
  Says : Answer → Plan
  -- the file is named by the place of its name among the words
  Reads : ℕ → (List ℕ → Plan) → Plan

-- goes on with what is there; a refusal ends the plan
abbrev pub checked : {A E : Type 0} → (E → Refusal) → Result A E → (A → Plan) → Plan
checked refuse (Ok x) next = next x
checked refuse (Err e) next = Says (Err (refuse e))

-- the most bytes that a file may have
abbrev pub file_limit : ℕ
file_limit = 16777216

-- a file's bytes, or that there are too many
abbrev pub within : ℕ → List ℕ → Result (List ℕ) Refusal
within f bytes = if nat_lt file_limit (length bytes) then Err (TooLong f) else Ok bytes

abbrev pub reading : ℕ → (List ℕ → Plan) → Plan
reading f next = Reads f (λ bytes. checked (λ e. e) (within f bytes) next)

abbrev pub word_at : List (List ℕ) → ℕ → List ℕ
word_at words f = slice_index_or words f []

-- over these contents the plan comes to reading this file
unfoldable pub Comes : (List ℕ → Option (List ℕ)) → List (List ℕ) → Plan → ℕ → Type 0
Comes content words (Says answer) f = ⊥
Comes content words (Reads e next) f = (f ≡ e) ⊎ ((bytes : List ℕ) × (content (word_at words e) ≡ Some bytes) × Comes content words (next bytes) f)

-- what the plan comes to over these contents; None where it comes to a file of which nothing is told
unfoldable pub told_answer : (List ℕ → Option (List ℕ)) → List (List ℕ) → Plan → Option Answer
told_answer content words (Says answer) = Some answer
told_answer content words (Reads f next) = option_and_then (λ bytes. told_answer content words (next bytes)) (content (word_at words f))

-- each file to which the plan comes over these contents is told
abbrev pub AreTold : (List ℕ → Option (List ℕ)) → List (List ℕ) → Plan → Type 0
AreTold content words p = (f : ℕ) → Comes content words p f → (bytes : List ℕ) × (content (word_at words f) ≡ Some bytes)
