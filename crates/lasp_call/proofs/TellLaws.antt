-- Laws of what is appended piece by piece.
use Rattle.std.proofs.Common.{refl, sym, ap, subst, ◌∙◌, append_assoc, append-nil, arith}
use Rattle.std.specs.Prelude.{◌≡◌, ◌≢◌, ◌==◌, true, false, length, ℕ, List, [], ◌∷◌, ◌++◌, Option, Some, None, Result, Ok, Err, OnErr}
use mathlib.Core.Logic.{inl}
use Rattle.std.proofs.lemmas.Bool.Decides.{Decides-eqb}
use Rattle.model_values.specs.Told.{Appends, AppendsPrefix}
use Rattle.model_program.specs.Ends.{writing}
use Rattle.model_world.specs.Line.{line_rest}
use Rattle.lasp_call.specs.Ends.{EndsWithText}

-- one piece after the other
pub appends-then : (old mid new : Option (List ℕ)) (a b : List ℕ) → Appends old a mid → Appends mid b new → Appends old (a ++ b) new
appends-then None mid new a b first second = subst (λ (m : Option (List ℕ)). Appends m b new) first second
appends-then (Some old) mid new a b first second =
    subst (λ (m : Option (List ℕ)). Appends m b new) first second ∙ ap (λ (bytes : List ℕ). Some bytes) (append_assoc old a b)

-- the first piece was written in part
pub prefix-first : (old new : Option (List ℕ)) (a b : List ℕ) → AppendsPrefix old a new → AppendsPrefix old (a ++ b) new
prefix-first old new a b (part, rest, whole, appends) =
    (part, rest ++ b, sym (append_assoc part rest b) ∙ ap (λ (bytes : List ℕ). bytes ++ b) whole, appends)

-- the first piece was written whole, the second in part
pub prefix-then : (old mid new : Option (List ℕ)) (a b : List ℕ) → Appends old a mid → AppendsPrefix mid b new → AppendsPrefix old (a ++ b) new
prefix-then old mid new a b first (part, rest, whole, appends) =
    (a ++ part, rest, append_assoc a part rest ∙ ap (λ (bytes : List ℕ). a ++ bytes) whole, appends-then old mid new a part first appends)

-- where the second write failed, it failed in part
pub part-then : {A E : Type 0} (r : Result A E) (old mid new : Option (List ℕ)) (a b : List ℕ) → Appends old a mid → OnErr r (AppendsPrefix mid b new) → OnErr r (AppendsPrefix old (a ++ b) new)
part-then (Ok x) old mid new a b first second = tt
part-then (Err e) old mid new a b first second = prefix-then old mid new a b first second

-- the rest of a line: one word was written, and then the others
pub rest-then : {A E : Type 0} (r : Result A E) (old mid new : Option (List ℕ)) (word : List ℕ) (others words : List (List ℕ)) → words ≡ word ∷ others
    → Appends old (32 ∷ word) mid → OnErr r (AppendsPrefix mid (line_rest others) new) → OnErr r (AppendsPrefix old (line_rest words) new)
rest-then r old mid new word others words e first second =
    subst (λ (ws : List (List ℕ)). OnErr r (AppendsPrefix old (line_rest ws) new)) (sym e) (part-then r old mid new (32 ∷ word) (line_rest others) first second)

-- the rest of a line: its first word was written in part
pub rest-first : (old new : Option (List ℕ)) (word : List ℕ) (others words : List (List ℕ)) → words ≡ word ∷ others
    → AppendsPrefix old (32 ∷ word) new → AppendsPrefix old (line_rest words) new
rest-first old new word others words e first =
    subst (λ (ws : List (List ℕ)). AppendsPrefix old (line_rest ws) new) (sym e) (prefix-first old new (32 ∷ word) (line_rest others) first)

-- ---- how a text ends

-- nothing is appended
appends-nothing : (old : Option (List ℕ)) → Appends old [] old
appends-nothing None = refl
appends-nothing (Some old) = ap (λ (bytes : List ℕ). Some bytes) (sym (append-nil old))

-- an empty text was written, by no write
pub ends-empty : (text : List ℕ) (out err : Option (List ℕ)) (f g : ℕ) → (length text == 0) ≡ true → EndsWithText text (writing out out f f) (writing err err g g) 0
ends-empty [] out err f g empty = inl (refl, appends-nothing out, refl)
ends-empty (b ∷ text) out err f g empty = absurd (omega (arith, (Decides-eqb (length (b ∷ text)) 0).0 empty))

-- there is something to write
pub some-bytes : (text : List ℕ) → (length text == 0) ≡ false → text ≢ []
some-bytes [] h = absurd cc
some-bytes (b ∷ text) h = λ e. absurd cc

pub ruleset texts = (ends-empty, some-bytes)

pub ruleset appending = (appends-then, prefix-first, prefix-then, part-then)
