-- What the bytes of a worked script come to, by computation.
use Rattle.std.proofs.Common.{refl, ap, ◌∙◌}
use Rattle.std.specs.Prelude.{◌≡◌, ℕ, zero, suc, ◌<◌, pos, negsuc, List, [], ◌∷◌, codes, slice_index, Bool, true, nat_lt, if◌then◌else◌, Option, None, Ok, Err}
use Rattle.std.specs.List.{list_all}
use Rattle.std.proofs.lemmas.Bool.{ltb-true, and_parts}
use Rattle.std.proofs.lemmas.Str.{IsUtf8-from_ascii, is_utf8-from_IsUtf8}
use Rattle.std.proofs.lemmas.Str.Ascii.{IsAscii-nil}
use Rattle.fast_float.specs.Text.{scan}
use Rattle.json.specs.Json.{items, members, value}
use Rattle.json.specs.Lex.{lex, punctuate}
use Rattle.json.specs.Text.{content}
use Rattle.json.specs.Word.{after_number, word}
use Rattle.serde_json.specs.Data.{Data}
use Rattle.serde_json.specs.Read.{number_of, read}
use Rattle.model_values.specs.Json.{read_value}
use Rattle.model_values.specs.Value.{int}
use Rattle.model_functions.specs.Map.{Abs}
use Rattle.model_graph.specs.Chain.{◌>>=◌, or_else}
use Rattle.model_graph.specs.Graph.{Map}
use Rattle.model_readings.specs.Tree.{is_word_at, has_items, json_of}
use Rattle.model_readings.specs.Graph.{written_of, form_of, names_of, place_of, input_read, function_named, function_read, decl_read}
use Rattle.model_world.specs.Command.{Added, Add, Mark, Sync, Deliver, Declare, Await}
use Rattle.model_scripts.specs.declared.script_why.ScriptWhy.TheVariants.{NotJson}
use Rattle.model_scripts.specs.Word.{bound_of, word_of}
use Rattle.model_scripts.specs.Progress.{mark_of}
use Rattle.model_scripts.specs.Parts.{number_below}
use Rattle.model_scripts.specs.Script.{script_from, word_read, next_read, commands_read, nodes_of, parts_read, tree_read, script_of}
use Rattle.model_examples.specs.Case.{variable}
use Rattle.model_examples.specs.Scripts.{example_graph, example_library, example_bytes}

ascii : (bytes : List ℕ) → list_all (λ b. nat_lt b 128) bytes ≡ true → (i : ℕ) → slice_index bytes i < 128
ascii [] h i = IsAscii-nil i
ascii (b ∷ bytes) h zero = ltb-true b 128 (and_parts (nat_lt b 128) (list_all (λ b. nat_lt b 128) bytes) h).0
ascii (b ∷ bytes) h (suc i) = ascii bytes (and_parts (nat_lt b 128) (list_all (λ b. nat_lt b 128) bytes) h).1 i

-- bytes of ASCII are UTF-8
json-ascii : (bytes : List ℕ) → list_all (λ b. nat_lt b 128) bytes ≡ true → json_of bytes ≡ read bytes
unfolding json_of
json-ascii bytes h = ap (λ (b : Bool). if b then read bytes else None) (is_utf8-from_IsUtf8 bytes (IsUtf8-from_ascii bytes (ascii bytes h)))

pub bytes-told : script_of example_library example_graph example_bytes ≡ Ok (script_from 2 (Add 0 0 (int (pos 5)) ∷ Mark 0 0 ∷ Sync ∷ Deliver 1 1 ∷ Declare (variable (codes "n") (Map 2 0 (Abs ∷ []))) ∷ Await 1 6 (Added (int (negsuc 4) ∷ [])) ∷ []))
unfolding script_of scan items members value lex punctuate content after_number word number_of is_word_at has_items nodes_of parts_read tree_read place_of mark_of number_below read_value bound_of written_of form_of names_of input_read function_named function_read decl_read word_of word_read next_read commands_read
bytes-told = ap (λ (o : Option Data). or_else o (0, NotJson) >>= tree_read example_library example_graph) (json-ascii example_bytes refl) ∙ refl

pub unclosed-told : script_of example_library example_graph (codes "[[\"nodes\",1]") ≡ Err (0, NotJson)
unfolding script_of scan items members value lex punctuate content after_number word number_of
unclosed-told = ap (λ (o : Option Data). or_else o (0, NotJson) >>= tree_read example_library example_graph) (json-ascii (codes "[[\"nodes\",1]") refl) ∙ refl

pub ruleset bytes = (bytes-told, unclosed-told)
