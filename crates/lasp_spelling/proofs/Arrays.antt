-- An array opens, goes on, and closes.
use Rattle.std.proofs.Common.{◌≡◌, ◌∙◌, refl, sym, ap, ℕ, ◌+◌, ◌≤◌, List, [], ◌∷◌, ◌++◌, Bool, true, false, arith, append_assoc, append-nil}
use Rattle.json.specs.Token as plain
use Rattle.json.specs.Lex.{Lexeme, token, comma, between, lex}
use Rattle.serde_json.specs.Data.{Data, array, depth, items_depth}
use Rattle.serde_json.specs.View.{items_of}
use Rattle.lasp_spelling.specs.Spelling.{Begins, comma_if, lexemes_of, items_lexemes, IsPlain, ArePlain, Spells, listed, Opens}

items_lexemes-listed : (later : Bool) (ds : List Data) (rest : List Lexeme) → listed later ds ++ (token plain.end_array ∷ rest) ≡ items_lexemes later (items_of ds) ++ rest
items_lexemes-listed later [] rest = refl
items_lexemes-listed later (d ∷ ds) rest =
    append_assoc (comma_if later) _ _ ∙ ap (λ ls. comma_if later ++ ls) (append_assoc (lexemes_of d) _ _ ∙ ap (λ ls. lexemes_of d ++ ls) (items_lexemes-listed true ds rest) ∙ sym (append_assoc (lexemes_of d) _ _)) ∙ sym (append_assoc (comma_if later) _ _)

listed-push : (ds : List Data) (d : Data) (rest : List Lexeme) → listed true ds ++ (comma ∷ (lexemes_of d ++ rest)) ≡ listed true (ds ++ d ∷ []) ++ rest
listed-push [] d rest = ap (λ ls. comma ∷ (ls ++ rest)) (sym (append-nil (lexemes_of d)))
listed-push (e ∷ ds) d rest = ap (λ ls. comma ∷ ls) (append_assoc (lexemes_of e) _ _ ∙ ap (λ ls. lexemes_of e ++ ls) (listed-push ds d rest) ∙ sym (append_assoc (lexemes_of e) _ _))

plain-push : (ds : List Data) (d : Data) → ArePlain (items_of ds) → IsPlain d → ArePlain (items_of (ds ++ d ∷ []))
plain-push [] d are is = (is, tt)
plain-push (e ∷ ds) d are is = (are.0, plain-push ds d are.1 is)

nests-push : (nesting : ℕ) (ds : List Data) (d : Data) → items_depth (items_of ds) ≤ nesting → depth d ≤ nesting → items_depth (items_of (ds ++ d ∷ [])) ≤ nesting
nests-push nesting [] d are is = omega arith
nests-push nesting (e ∷ ds) d are is = omega (arith, nests-push nesting ds d (omega arith) is)

pub opens-first : (nesting : ℕ) (old inside new : List ℕ) (d : Data) → Begins old (token plain.begin_array ∷ []) inside → Spells nesting inside d new → Opens nesting old (d ∷ []) new
opens-first nesting old inside new d opened first = record {
  begun = omega arith;
  lexemes = opened ∙ ap (λ ls. token plain.begin_array ∷ ls) (first.lexemes ∙ ap (λ ls. ls ++ lex between new) (sym (append-nil (lexemes_of d))));
  plain = (first.plain, tt);
  nests = omega (arith, first.nests);
}

pub opens-more : (nesting : ℕ) (old rest next new : List ℕ) (ds : List Data) (d : Data) → Opens nesting old ds rest → Begins rest (comma ∷ []) next → Spells nesting next d new → Opens nesting old (ds ++ d ∷ []) new
opens-more nesting old rest next new [] d opened parted more = absurd (omega (arith, opened.begun))
opens-more nesting old rest next new (e ∷ ds) d opened parted more = record {
  begun = omega arith;
  lexemes =
      opened.lexemes
      ∙ ap (λ ls. token plain.begin_array ∷ ls)
      (append_assoc (lexemes_of e) _ _
      ∙ ap (λ ls. lexemes_of e ++ ls) (ap (λ ls. listed true ds ++ ls) (parted ∙ ap (λ ls. comma ∷ ls) more.lexemes) ∙ listed-push ds d (lex between new))
      ∙ sym (append_assoc (lexemes_of e) _ _));
  plain = plain-push (e ∷ ds) d opened.plain more.plain;
  nests = nests-push nesting (e ∷ ds) d opened.nests more.nests;
}

pub opens-closes : (nesting : ℕ) (old rest new : List ℕ) (ds : List Data) → Opens nesting old ds rest → Begins rest (token plain.end_array ∷ []) new → Spells (nesting + 1) old (array (items_of ds)) new
opens-closes nesting old rest new ds opened closed = record {
  lexemes = opened.lexemes ∙ ap (λ ls. token plain.begin_array ∷ (listed false ds ++ ls)) closed ∙ ap (λ ls. token plain.begin_array ∷ ls) (items_lexemes-listed false ds (lex between new));
  plain = opened.plain;
  nests = omega (arith, opened.nests);
}
