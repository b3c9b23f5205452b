-- A spelling of a whole text is what JSON reads there.
use Rattle.std.proofs.Common.{◌≡◌, ◌∙◌, refl, sym, ap, ℕ, suc, ◌≤◌, List, [], ◌∷◌, ◌++◌, Bool, true, false, Some, option_map, option_and_then, arith, append_assoc}
use Rattle.json.specs.Token as plain
use Rattle.json.specs.Token.{Token}
use Rattle.json.specs.Lex.{Lexeme, between, lex, Place, fresh, after_value, after_comma, begins_colon, punctuate}
use Rattle.json.specs.Json as json
use Rattle.json.specs.Tree as tree
use Rattle.json.specs.Tree.{json_tokens, items_tokens}
use Rattle.json.proofs.Printed.Trees.{value-json_tokens}
use Rattle.serde_json.specs.Data.{Data, null, boolean, number, string, array, object, Items, no_items, item, depth, items_depth}
use Rattle.serde_json.specs.Read.{of_json, of_items, max_depth, read}
use Rattle.serde_json.specs.Written.{outline, items_outline}
use Rattle.lasp_spelling.specs.Spelling.{lexemes_of, items_lexemes, IsPlain, ArePlain, Spells}

-- where a part may stand: behind another, or first
abbrev place : Bool → Place
place true = after_value
place false = fresh

no_colon : (ds : Items) (rest : List Lexeme) → begins_colon (items_lexemes true ds ++ rest) ≡ false
no_colon no_items rest = refl
no_colon (item d ds) rest = refl

mutual
  unfolding punctuate

  -- a value may stand first, or behind a comma
  tokens-first : (d : Data) (rest : List Lexeme) → IsPlain d → begins_colon rest ≡ false → punctuate fresh (lexemes_of d ++ rest) ≡ json_tokens (outline d) ++ punctuate after_value rest
  tokens-first null rest is apart = absurd is
  tokens-first (boolean b) rest is apart = absurd is
  tokens-first (number n) rest is apart = refl
  tokens-first (string s) rest is apart = rw apart refl
  tokens-first (array ds) rest is apart = ap (λ ts. plain.begin_array ∷ ts) (tokens-items false ds rest is)
  tokens-first (object ms) rest is apart = absurd is

  tokens-later : (d : Data) (rest : List Lexeme) → IsPlain d → begins_colon rest ≡ false → punctuate after_comma (lexemes_of d ++ rest) ≡ json_tokens (outline d) ++ punctuate after_value rest
  tokens-later null rest is apart = absurd is
  tokens-later (boolean b) rest is apart = absurd is
  tokens-later (number n) rest is apart = refl
  tokens-later (string s) rest is apart = rw apart refl
  tokens-later (array ds) rest is apart = ap (λ ts. plain.begin_array ∷ ts) (tokens-items false ds rest is)
  tokens-later (object ms) rest is apart = absurd is

  tokens-items : (later : Bool) (ds : Items) (rest : List Lexeme) → ArePlain ds → punctuate (place later) (items_lexemes later ds ++ rest) ≡ items_tokens (items_outline ds) ++ punctuate after_value rest
  tokens-items true no_items rest are = refl
  tokens-items false no_items rest are = refl
  tokens-items false (item d ds) rest are =
      ap (punctuate fresh) (append_assoc (lexemes_of d) (items_lexemes true ds) rest)
      ∙ tokens-first d (items_lexemes true ds ++ rest) are.0 (no_colon ds rest)
      ∙ ap (λ ts. json_tokens (outline d) ++ ts) (tokens-items true ds rest are.1)
      ∙ sym (append_assoc (json_tokens (outline d)) (items_tokens (items_outline ds)) (punctuate after_value rest))
  tokens-items true (item d ds) rest are =
      ap (punctuate after_comma) (append_assoc (lexemes_of d) (items_lexemes true ds) rest)
      ∙ tokens-later d (items_lexemes true ds ++ rest) are.0 (no_colon ds rest)
      ∙ ap (λ ts. json_tokens (outline d) ++ ts) (tokens-items true ds rest are.1)
      ∙ sym (append_assoc (json_tokens (outline d)) (items_tokens (items_outline ds)) (punctuate after_value rest))

mutual
  of_json-outline : (d : Data) → IsPlain d → of_json (outline d) ≡ Some d
  of_json-outline null is = absurd is
  of_json-outline (boolean b) is = absurd is
  of_json-outline (number n) is = ap (option_map number) is
  of_json-outline (string s) is = refl
  of_json-outline (array ds) is = ap (option_map array) (of_items-outline ds is)
  of_json-outline (object ms) is = absurd is

  of_items-outline : (ds : Items) → ArePlain ds → of_items (items_outline ds) ≡ Some ds
  of_items-outline no_items are = refl
  of_items-outline (item d ds) are = rw (of_json-outline d are.0) (ap (option_map (item d)) (of_items-outline ds are.1))

mutual
  depth-outline : (d : Data) → IsPlain d → tree.depth (outline d) ≡ depth d
  depth-outline null is = absurd is
  depth-outline (boolean b) is = absurd is
  depth-outline (number n) is = refl
  depth-outline (string s) is = refl
  depth-outline (array ds) is = ap suc (depth-items_outline ds is)
  depth-outline (object ms) is = absurd is

  depth-items_outline : (ds : Items) → ArePlain ds → tree.items_depth (items_outline ds) ≡ items_depth ds
  depth-items_outline no_items are = refl
  depth-items_outline (item d ds) are = rw (depth-outline d are.0, depth-items_outline ds are.1) refl

-- the text ends behind the tree
pub read-Spells : (bytes rest : List ℕ) (d : Data) → Spells max_depth bytes d rest → lex between rest ≡ [] → read bytes ≡ Some d
unfolding punctuate
read-Spells bytes rest d h over =
    let lexed : lex between bytes ≡ lexemes_of d ++ [] = h.lexemes ∙ ap (λ ls. lexemes_of d ++ ls) over in
    let shallow : tree.depth (outline d) ≤ max_depth = omega (arith, depth-outline d h.plain, h.nests) in
    ap (λ ls. option_and_then of_json (option_and_then (λ p. json.if_last p.0 p.1) (json.value max_depth (punctuate fresh ls)))) lexed
    ∙ ap (λ ts. option_and_then of_json (option_and_then (λ p. json.if_last p.0 p.1) (json.value max_depth ts))) (tokens-first d [] h.plain refl)
    ∙ ap (λ r. option_and_then of_json (option_and_then (λ p. json.if_last p.0 p.1) r)) (value-json_tokens (outline d) max_depth [] shallow)
    ∙ of_json-outline d h.plain
