-- What the worked scripts come to, by computation.
use Rattle.std.proofs.Common.{refl}
use Rattle.std.specs.Prelude.{◌≡◌, pos, negsuc, [], ◌∷◌, codes, Float, Ok, Err}
use Rattle.serde_json.specs.Data.{null, number, float}
use Rattle.model_values.specs.Json.{read_value}
use Rattle.model_values.specs.Value.{int, pair}
use Rattle.model_values.specs.Value as value
use Rattle.model_functions.specs.Map.{Abs}
use Rattle.model_graph.specs.Graph.{Map}
use Rattle.model_readings.specs.Tree.{is_word_at, has_items}
use Rattle.model_readings.specs.Graph.{written_of, form_of, names_of, place_of, inputs_read, input_read, function_named, function_read, decl_read}
use Rattle.model_world.specs.Command.{AtLeast, Above, Count, Added, Removed, Add, Remove, Insert, Inc, Max, Mark, Bind, Send, Deliver, Sync, Settle, Print, Read, Await, Declare}
use Rattle.model_scripts.specs.declared.script_why.ScriptWhy.TheVariants as why
use Rattle.model_scripts.specs.Word.{bound_of, word_of}
use Rattle.model_scripts.specs.Progress.{mark_of}
use Rattle.model_scripts.specs.Parts.{number_below, step_of}
use Rattle.model_scripts.specs.Script.{script_from, word_read, next_read, commands_read, nodes_of, parts_read, tree_read}
use Rattle.model_examples.specs.Scripts.{list, text, whole, example_graph, example_library, nodes, call, declaration, told, all_words}
use Rattle.model_examples.specs.Case.{variable}

pub read-told : told all_words ≡ Ok (script_from 2 (Add 0 0 (int (pos 5)) ∷ Remove 1 1 (pair (int (pos 5)) (value.text (codes "x"))) ∷ Insert 0 3 (value.text (codes "x")) ∷ Inc 1 4 3 ∷ Max 0 5 (negsuc 4) ∷ Mark 0 0 ∷ Bind 1 0 0 ∷ Send 0 ∷ Sync ∷ Deliver 1 2 ∷ Settle ∷ Declare (variable (codes "n") (Map 2 0 (Abs ∷ []))) ∷ Print 0 6 ∷ Read 0 0 (AtLeast 0) ∷ Read 1 0 (Above 0) ∷ Read 1 6 (Added (int (pos 5) ∷ [])) ∷ Await 0 4 (Count 0) ∷ Await 0 2 (Removed []) ∷ []))
unfolding is_word_at has_items nodes_of parts_read tree_read place_of mark_of number_below step_of read_value bound_of written_of form_of names_of inputs_read input_read function_named function_read decl_read word_of word_read next_read commands_read
read-told = refl

pub null-told : tree_read example_library example_graph null ≡ Err (0, why.Shape)
unfolding is_word_at has_items nodes_of parts_read tree_read place_of mark_of number_below step_of read_value bound_of written_of form_of names_of inputs_read input_read function_named function_read decl_read word_of word_read next_read commands_read
null-told = refl

pub empty-told : tree_read example_library example_graph (list []) ≡ Err (0, why.Shape)
unfolding is_word_at has_items nodes_of parts_read tree_read place_of mark_of number_below step_of read_value bound_of written_of form_of names_of inputs_read input_read function_named function_read decl_read word_of word_read next_read commands_read
empty-told = refl

pub no_node-told : tree_read example_library example_graph (list (nodes 0 ∷ [])) ≡ Err (0, why.Shape)
unfolding is_word_at has_items nodes_of parts_read tree_read place_of mark_of number_below step_of read_value bound_of written_of form_of names_of inputs_read input_read function_named function_read decl_read word_of word_read next_read commands_read
no_node-told = refl

pub many_nodes-told : tree_read example_library example_graph (list (nodes 9 ∷ [])) ≡ Err (0, why.Shape)
unfolding is_word_at has_items nodes_of parts_read tree_read place_of mark_of number_below step_of read_value bound_of written_of form_of names_of inputs_read input_read function_named function_read decl_read word_of word_read next_read commands_read
many_nodes-told = refl

pub float-told : (x : Float) → tree_read example_library example_graph (list (list (text (codes "nodes") ∷ number (float x) ∷ []) ∷ [])) ≡ Err (0, why.Shape)
unfolding is_word_at has_items nodes_of parts_read tree_read place_of mark_of number_below step_of read_value bound_of written_of form_of names_of inputs_read input_read function_named function_read decl_read word_of word_read next_read commands_read
float-told = λ x. refl

pub second_nodes-told : told (nodes 2 ∷ []) ≡ Err (1, why.Shape)
unfolding is_word_at has_items nodes_of parts_read tree_read place_of mark_of number_below step_of read_value bound_of written_of form_of names_of inputs_read input_read function_named function_read decl_read word_of word_read next_read commands_read
second_nodes-told = refl

pub capital-told : told (list (text (codes "Sync") ∷ []) ∷ []) ≡ Err (1, why.Shape)
unfolding is_word_at has_items nodes_of parts_read tree_read place_of mark_of number_below step_of read_value bound_of written_of form_of names_of inputs_read input_read function_named function_read decl_read word_of word_read next_read commands_read
capital-told = refl

pub mark_name-told : told (call (codes "mark") 0 (codes "a") (text (codes "K")) ∷ []) ≡ Err (1, why.Shape)
unfolding is_word_at has_items nodes_of parts_read tree_read place_of mark_of number_below step_of read_value bound_of written_of form_of names_of inputs_read input_read function_named function_read decl_read word_of word_read next_read commands_read
mark_name-told = refl

pub no_such_node-told : told (list (text (codes "settle") ∷ []) ∷ call (codes "add") 2 (codes "z") (whole 1) ∷ []) ≡ Err (2, why.NoSuchNode)
unfolding is_word_at has_items nodes_of parts_read tree_read place_of mark_of number_below step_of read_value bound_of written_of form_of names_of inputs_read input_read function_named function_read decl_read word_of word_read next_read commands_read
no_such_node-told = refl

pub unknown_var-told : told (call (codes "add") 1 (codes "z") (whole 1) ∷ []) ≡ Err (1, why.UnknownVar)
unfolding is_word_at has_items nodes_of parts_read tree_read place_of mark_of number_below step_of read_value bound_of written_of form_of names_of inputs_read input_read function_named function_read decl_read word_of word_read next_read commands_read
unknown_var-told = refl

pub unknown_mark-told : told (call (codes "bind") 0 (codes "u") (text (codes "K")) ∷ []) ≡ Err (1, why.UnknownMark)
unfolding is_word_at has_items nodes_of parts_read tree_read place_of mark_of number_below step_of read_value bound_of written_of form_of names_of inputs_read input_read function_named function_read decl_read word_of word_read next_read commands_read
unknown_mark-told = refl

pub mark_taken-told : told (call (codes "mark") 0 (codes "a") (text (codes "k")) ∷ call (codes "mark") 1 (codes "u") (text (codes "k")) ∷ []) ≡ Err (2, why.MarkTaken)
unfolding is_word_at has_items nodes_of parts_read tree_read place_of mark_of number_below step_of read_value bound_of written_of form_of names_of inputs_read input_read function_named function_read decl_read word_of word_read next_read commands_read
mark_taken-told = refl

pub wrong_op-told : told (call (codes "add") 0 (codes "c") null ∷ []) ≡ Err (1, why.WrongOp)
unfolding is_word_at has_items nodes_of parts_read tree_read place_of mark_of number_below step_of read_value bound_of written_of form_of names_of inputs_read input_read function_named function_read decl_read word_of word_read next_read commands_read
wrong_op-told = refl

pub other_mark-told : told (call (codes "mark") 0 (codes "a") (text (codes "k")) ∷ call (codes "read") 0 (codes "b") (list (text (codes "at_least") ∷ text (codes "k") ∷ [])) ∷ []) ≡ Err (2, why.WrongOp)
unfolding is_word_at has_items nodes_of parts_read tree_read place_of mark_of number_below step_of read_value bound_of written_of form_of names_of inputs_read input_read function_named function_read decl_read word_of word_read next_read commands_read
other_mark-told = refl

pub value_refused-told : told (call (codes "add") 0 (codes "a") null ∷ []) ≡ Err (1, why.ValueRefused)
unfolding is_word_at has_items nodes_of parts_read tree_read place_of mark_of number_below step_of read_value bound_of written_of form_of names_of inputs_read input_read function_named function_read decl_read word_of word_read next_read commands_read
value_refused-told = refl

pub step-told : told (call (codes "inc") 0 (codes "c") (whole 0) ∷ []) ≡ Err (1, why.ValueRefused)
unfolding is_word_at has_items nodes_of parts_read tree_read place_of mark_of number_below step_of read_value bound_of written_of form_of names_of inputs_read input_read function_named function_read decl_read word_of word_read next_read commands_read
step-told = refl

pub not_sent-told : told (list (text (codes "sync") ∷ []) ∷ list (text (codes "deliver") ∷ whole 0 ∷ whole 2 ∷ []) ∷ []) ≡ Err (2, why.NotSent)
unfolding is_word_at has_items nodes_of parts_read tree_read place_of mark_of number_below step_of read_value bound_of written_of form_of names_of inputs_read input_read function_named function_read decl_read word_of word_read next_read commands_read
not_sent-told = refl

pub shape-told : told (declaration (text (codes "n") ∷ text (codes "bag") ∷ []) ∷ []) ≡ Err (1, why.Shape)
unfolding is_word_at has_items nodes_of parts_read tree_read place_of mark_of number_below step_of read_value bound_of written_of form_of names_of inputs_read input_read function_named function_read decl_read word_of word_read next_read commands_read
shape-told = refl

pub name_shape-told : told (declaration (text (codes "N") ∷ text (codes "orset") ∷ []) ∷ []) ≡ Err (1, why.NameShape)
unfolding is_word_at has_items nodes_of parts_read tree_read place_of mark_of number_below step_of read_value bound_of written_of form_of names_of inputs_read input_read function_named function_read decl_read word_of word_read next_read commands_read
name_shape-told = refl

pub name_taken-told : told (declaration (text (codes "a") ∷ text (codes "orset") ∷ []) ∷ []) ≡ Err (1, why.NameTaken)
unfolding is_word_at has_items nodes_of parts_read tree_read place_of mark_of number_below step_of read_value bound_of written_of form_of names_of inputs_read input_read function_named function_read decl_read word_of word_read next_read commands_read
name_taken-told = refl

pub taken_later-told : told (declaration (text (codes "n") ∷ text (codes "orset") ∷ []) ∷ declaration (text (codes "n") ∷ text (codes "gset") ∷ []) ∷ []) ≡ Err (2, why.NameTaken)
unfolding is_word_at has_items nodes_of parts_read tree_read place_of mark_of number_below step_of read_value bound_of written_of form_of names_of inputs_read input_read function_named function_read decl_read word_of word_read next_read commands_read
taken_later-told = refl

pub unknown_input-told : told (declaration (text (codes "n") ∷ text (codes "union") ∷ text (codes "c") ∷ text (codes "z") ∷ []) ∷ []) ≡ Err (1, why.UnknownInput)
unfolding is_word_at has_items nodes_of parts_read tree_read place_of mark_of number_below step_of read_value bound_of written_of form_of names_of inputs_read input_read function_named function_read decl_read word_of word_read next_read commands_read
unknown_input-told = refl

pub wrong_kind-told : told (declaration (text (codes "n") ∷ text (codes "map") ∷ text (codes "g") ∷ text (codes "neg") ∷ []) ∷ []) ≡ Err (1, why.WrongKind)
unfolding is_word_at has_items nodes_of parts_read tree_read place_of mark_of number_below step_of read_value bound_of written_of form_of names_of inputs_read input_read function_named function_read decl_read word_of word_read next_read commands_read
wrong_kind-told = refl

pub unknown_function-told : told (declaration (text (codes "n") ∷ text (codes "map") ∷ text (codes "a") ∷ text (codes "neg") ∷ []) ∷ []) ≡ Err (1, why.UnknownFunction)
unfolding is_word_at has_items nodes_of parts_read tree_read place_of mark_of number_below step_of read_value bound_of written_of form_of names_of inputs_read input_read function_named function_read decl_read word_of word_read next_read commands_read
unknown_function-told = refl

pub ruleset examples = (read-told, null-told, empty-told, no_node-told, many_nodes-told, float-told, second_nodes-told, capital-told, mark_name-told, no_such_node-told, unknown_var-told, unknown_mark-told, mark_taken-told, wrong_op-told, other_mark-told, value_refused-told, step-told, not_sent-told, shape-told, name_shape-told, name_taken-told, taken_later-told, unknown_input-told, wrong_kind-told, unknown_function-told)
