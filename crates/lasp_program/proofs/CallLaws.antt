-- Words, of which each is a text or one is none.
use Rattle.std.proofs.Common.{◌≡◌, sym, ap, subst, ◌∙◌, ℕ, suc, zero, ◌+◌, ◌≤◌, List, [], ◌∷◌, ◌++◌, length, take, add-one}
use Rattle.std.specs.Prelude.{string_bytes, slice_get, Some}
use Rattle.std.specs.Str.{IsUtf8}
use Rattle.std.specs.declared.string.String.{String}
use Rattle.std.specs.declared.vec.Vec.{Vec}
use Rattle.std.proofs.lemmas.Option.{same_Some}
use Rattle.std.proofs.lemmas.List.{map-append, take_all}
use Rattle.model_program.specs.Call.{AreTexts}
use Rattle.lasp_call.specs.Words.{words_of}
use Rattle.lasp_program.specs.Call.{bytes_of}

take-next : {A : Type 0} (words : List A) (i : ℕ) (word : A) → slice_get words i ≡ Some word → take (suc i) words ≡ take i words ++ word ∷ []
take-next [] i word at = absurd cc
take-next (w ∷ words) zero word at = ap (λ (v : _). v ∷ []) (same_Some w word at)
take-next (w ∷ words) (suc i) word at = ap (λ (ws : List _). w ∷ ws) (take-next words i word at)

texts-push : {A : Type 0} (words : List (Vec ℕ A)) (word : Vec ℕ A) → AreTexts (bytes_of words) → IsUtf8 word.items → AreTexts (bytes_of (words ++ word ∷ []))
texts-push [] word all good = (good, tt)
texts-push (w ∷ words) word all good = (all.0, texts-push words word all.1 good)

-- one text more
pub texts-more : {A : Type 0} (words : List (Vec ℕ A)) (i : ℕ) (word : Vec ℕ A) → slice_get words i ≡ Some word → AreTexts (bytes_of (take i words)) → IsUtf8 word.items → AreTexts (bytes_of (take (i + 1) words))
texts-more words i word at before good =
    rw add-one (subst (λ (ws : List (Vec ℕ _)). AreTexts (bytes_of ws)) (sym (take-next words i word at)) (texts-push (take i words) word before good))

pub bytes-more : {A B : Type 0} (words : List (Vec ℕ A)) (texts : List (String B)) (i : ℕ) (word : Vec ℕ A) (text : String B) → slice_get words i ≡ Some word → words_of texts ≡ bytes_of (take i words) → string_bytes text ≡ word.items
    → words_of (texts ++ text ∷ []) ≡ bytes_of (take (i + 1) words)
bytes-more words texts i word text at before is =
    rw add-one (
    map-append string_bytes texts (text ∷ [])
    ∙ ap (λ (ws : List (List ℕ)). ws ++ string_bytes text ∷ []) before
    ∙ ap (λ (bytes : List ℕ). bytes_of (take i words) ++ bytes ∷ []) is
    ∙ sym (map-append (λ (w : Vec ℕ _). w.items) (take i words) (word ∷ []))
    ∙ ap (λ (ws : List (Vec ℕ _)). bytes_of ws) (sym (take-next words i word at)))

-- one that is none
pub texts-none : {A : Type 0} (words : List (Vec ℕ A)) (i : ℕ) (word : Vec ℕ A) → slice_get words i ≡ Some word → ¬ IsUtf8 word.items → ¬ AreTexts (bytes_of words)
texts-none [] i word at bad = absurd cc
texts-none (w ∷ words) zero word at bad = λ all. bad (subst (λ (v : Vec ℕ _). IsUtf8 v.items) (same_Some w word at) all.0)
texts-none (w ∷ words) (suc i) word at bad = λ all. texts-none words i word at bad all.1

-- all are texts
pub texts-all : {A B : Type 0} (words : List (Vec ℕ A)) (texts : List (String B)) (i : ℕ) → length words ≤ i → words_of texts ≡ bytes_of (take i words) → AreTexts (bytes_of (take i words))
    → AreTexts (bytes_of words) × (words_of texts ≡ bytes_of words)
texts-all words texts i end is good =
    let whole = take_all i words end in
    (subst (λ (ws : List (Vec ℕ _)). AreTexts (bytes_of ws)) whole good, is ∙ ap (λ (ws : List (Vec ℕ _)). bytes_of ws) whole)
