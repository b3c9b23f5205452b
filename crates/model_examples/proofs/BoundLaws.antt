-- What the bounds of a script come to, by computation.
use Rattle.std.proofs.Common.{refl}
use Rattle.std.specs.Prelude.{◌≡◌, [], codes, replicate, true, is_ok, Err}
use Rattle.model_graph.specs.Graph.{OrSet}
use Rattle.model_readings.specs.Tree.{is_word_at, has_items}
use Rattle.model_readings.specs.Graph.{written_of, form_of, place_of, decl_read}
use Rattle.model_world.specs.Command.{Added, Mark, Settle, Read}
use Rattle.model_scripts.specs.declared.script_why.ScriptWhy.TheVariants as why
use Rattle.model_scripts.specs.Word.{bound_of, word_of}
use Rattle.model_scripts.specs.Progress.{mark_of}
use Rattle.model_scripts.specs.Parts.{number_below}
use Rattle.model_scripts.specs.Script.{word_read}
use Rattle.model_examples.specs.Case.{variable}
use Rattle.model_examples.specs.Scripts.{example_graph, example_library, behind, any_read, any_mark, any_declaration}

pub reads-told : word_read example_library 2 (behind 1000 (Read 0 0 (Added [])) example_graph) any_read ≡ Err why.TooMany
unfolding is_word_at has_items written_of form_of place_of decl_read bound_of word_of mark_of number_below word_read
reads-told = refl

pub last_read-told : is_ok (word_read example_library 2 (behind 999 (Read 0 0 (Added [])) example_graph) any_read) ≡ true
unfolding is_word_at has_items written_of form_of place_of decl_read bound_of word_of mark_of number_below word_read
last_read-told = refl

pub mark-told : is_ok (word_read example_library 2 (behind 1000 (Read 0 0 (Added [])) example_graph) any_mark) ≡ true
unfolding is_word_at has_items written_of form_of place_of decl_read bound_of word_of mark_of number_below word_read
mark-told = refl

pub marks-told : word_read example_library 2 (behind 1000 (Mark 0 0) example_graph) any_mark ≡ Err why.TooMany
unfolding is_word_at has_items written_of form_of place_of decl_read bound_of word_of mark_of number_below word_read
marks-told = refl

pub declarations-told : word_read example_library 2 (behind 0 Settle (replicate 64 (variable (codes "a") OrSet))) any_declaration ≡ Err why.TooMany
unfolding is_word_at has_items written_of form_of place_of decl_read bound_of word_of mark_of number_below word_read
declarations-told = refl

pub last_declaration-told : is_ok (word_read example_library 2 (behind 0 Settle (replicate 63 (variable (codes "a") OrSet))) any_declaration) ≡ true
unfolding is_word_at has_items written_of form_of place_of decl_read bound_of word_of mark_of number_below word_read
last_declaration-told = refl

pub commands-told : word_read example_library 2 (behind 99999 Settle example_graph) any_mark ≡ Err why.TooMany
unfolding is_word_at has_items written_of form_of place_of decl_read bound_of word_of mark_of number_below word_read
commands-told = refl

pub ruleset bounds = (reads-told, last_read-told, mark-told, marks-told, declarations-told, last_declaration-told, commands-told)
