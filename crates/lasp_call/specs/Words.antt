-- What the code's words and texts are.
use Rattle.std.specs.Prelude.{ℕ, List, map, string_bytes, Result, Ok, Err}
use Rattle.std.specs.declared.string.String.{String}
use Rattle.std.specs.declared.vec.Vec.{Vec}
use Rattle.model_program.specs.declared.failure.Failure.{Failure}

-- the words, each as its bytes
abbrev pub words_of : {A : Type 0} → List (String A) → List (List ℕ)
words_of words = map string_bytes words

-- the text to write, as its bytes, or why there is none
abbrev pub answered : {A : Type 0} → Result (Vec ℕ A) Failure → Result (List ℕ) Failure
answered (Ok text) = Ok text.items
answered (Err failure) = Err failure
