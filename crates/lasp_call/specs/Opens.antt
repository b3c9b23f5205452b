-- What a call makes of a file that its words name, whatever it is read as.
use Rattle.std.specs.Prelude.{◌≡◌, ◌<◌, ℕ, List, length, Result, Ok, Err}
use Rattle.model_graph.specs.Chain.{◌>>=◌}
use Rattle.model_values.specs.Faults.{Rose}
use Rattle.model_values.specs.Told.{Sees}
use Rattle.model_program.specs.Follows.{View}
use Rattle.model_program.specs.Plan.{within, word_at}
use Rattle.model_program.specs.declared.refusal.Refusal.{Refusal}
use Rattle.model_program.specs.declared.failure.Failure.{Failure}
use Rattle.model_program.specs.declared.failure.Failure.TheVariants.{Refused, ReadFault, Memory}

-- The call gives what a reader reads of the bytes that the file has, or refuses them as it does, or as too many; or the file couldn't be read, where its own count of faults rose; or memory was wanting.
abbrev pub Opens : {A B : Type 0} → (A → B) → List (List ℕ) → View → ℕ → (List ℕ → Result B Refusal) → Result A Failure → Type 0
Opens shown words v f reader (Ok a) = (bytes : List ℕ) × Sees (v.content (word_at words f)) bytes × ((within f bytes >>= reader) ≡ Ok (shown a))
Opens shown words v f reader (Err (Refused e)) = (bytes : List ℕ) × Sees (v.content (word_at words f)) bytes × ((within f bytes >>= reader) ≡ Err e)
Opens shown words v f reader (Err (ReadFault e)) = (e ≡ f) × (f < length words) × Rose (v.before (word_at words f)) (v.after (word_at words f))
Opens shown words v f reader (Err Memory) = Unit {0}
