-- Words of any bytes, and their texts.
use Rattle.std.specs.Prelude.{◌≡◌, ℕ, List, map, Option, Some, None}
use Rattle.std.specs.declared.string.String.{String}
use Rattle.std.specs.declared.vec.Vec.{Vec}
use Rattle.model_program.specs.Call.{AreTexts}
use Rattle.lasp_call.specs.Words.{words_of}

-- each word as its bytes
abbrev pub bytes_of : {A : Type 0} → List (Vec ℕ A) → List (List ℕ)
bytes_of words = map (λ w. w.items) words

-- the words are texts, and these are they; or one of them is none
abbrev pub TextsOrNone : {A B : Type 0} → List (List ℕ) → Option (Vec (String A) B) → Type 0
TextsOrNone words (Some texts) = AreTexts words × (words_of texts.items ≡ words)
TextsOrNone words None = ¬ AreTexts words
