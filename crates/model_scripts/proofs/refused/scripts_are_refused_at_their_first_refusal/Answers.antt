use Rattle.std.proofs.Common.{◌≡◌, ℕ, List, [], ◌∷◌, ap, ◌∙◌, Option, Some, Result, Ok}
use Rattle.serde_json.specs.Data.{Data, Items}
use Rattle.serde_json.specs.Find.{as_array}
use Rattle.model_functions.specs.Library.{Library}
use Rattle.model_graph.specs.Chain.{◌>>=◌, or_else}
use Rattle.model_graph.specs.Graph.{Decl}
use Rattle.model_readings.specs.Tree.{json_of, list_of}
use Rattle.model_world.specs.Command.{Script}
use Rattle.model_scripts.specs.declared.script_why.ScriptWhy.{ScriptWhy}
use Rattle.model_scripts.specs.declared.script_why.ScriptWhy.TheVariants.{NotJson, Shape}
use Rattle.model_scripts.specs.Progress.{Progress, opening}
use Rattle.model_scripts.specs.Script.{script_from, script_of, tree_read, parts_read, nodes_of, commands_read}
use Rattle.model_scripts.proofs.Firsts.{refused-found, refused-is, accepted-found, accepted-is}
use Rattle.model_scripts.proofs.refused.scripts_are_refused_at_their_first_refusal.Goals as goal

abbrev finished : ℕ → Result Progress (ℕ × ScriptWhy) → Result Script (ℕ × ScriptWhy)
finished nodes r = r >>= λ last. Ok (script_from nodes last.commands)

-- an array of these parts
to-parts : (lib : Library) (g : List Decl) (bytes : List ℕ) (tree : Data) (items : Items) (ds : List Data) → json_of bytes ≡ Some tree → as_array tree ≡ Some items → list_of items ≡ ds → script_of lib g bytes ≡ parts_read lib g ds
unfolding script_of tree_read
to-parts lib g bytes tree items ds e f l =
    ap (λ (o : Option Data). or_else o (0, NotJson) >>= tree_read lib g) e
    ∙ ap (λ (o : Option Items). or_else o (0, Shape) >>= (λ parts. parts_read lib g (list_of parts))) f
    ∙ ap (parts_read lib g) l

-- an array whose first part tells the nodes, or doesn't
to-commands : (lib : Library) (g : List Decl) (bytes : List ℕ) (tree : Data) (items : Items) (d : Data) (ds : List Data) (o : Option ℕ) → json_of bytes ≡ Some tree → as_array tree ≡ Some items → list_of items ≡ d ∷ ds → nodes_of d ≡ o
    → script_of lib g bytes ≡ (or_else o (0, Shape) >>= (λ nodes. finished nodes (commands_read lib nodes (opening g) ds)))
unfolding parts_read
to-commands lib g bytes tree items d ds o e f l some =
    to-parts lib g bytes tree items (d ∷ ds) e f l
    ∙ ap (λ (o : Option ℕ). or_else o (0, Shape) >>= (λ nodes. finished nodes (commands_read lib nodes (opening g) ds))) some

pub returns-clause-not_json : goal.returns-clause-not_json
unfolding script_of
returns-clause-not_json c = λ lib g bytes e. ap (λ (o : Option Data). or_else o (0, NotJson) >>= tree_read lib g) e

pub returns-clause-not_array : goal.returns-clause-not_array
unfolding script_of tree_read
returns-clause-not_array c = λ lib g bytes tree e f. ap (λ (o : Option Data). or_else o (0, NotJson) >>= tree_read lib g) e ∙ ap (λ (o : Option Items). or_else o (0, Shape) >>= (λ ds. parts_read lib g (list_of ds))) f

pub returns-clause-empty : goal.returns-clause-empty
unfolding parts_read
returns-clause-empty c = λ lib g bytes tree items e f l. to-parts lib g bytes tree items [] e f l

pub returns-clause-no_nodes : goal.returns-clause-no_nodes
returns-clause-no_nodes c = λ lib g bytes tree items d ds e f l none. to-commands lib g bytes tree items d ds _ e f l none

pub returns-clause-command_refused : goal.returns-clause-command_refused
returns-clause-command_refused c = λ lib g bytes tree items d ds nodes number why e f l some bad.
    to-commands lib g bytes tree items d ds _ e f l some ∙ ap (finished nodes) bad

pub returns-clause-commands_accepted : goal.returns-clause-commands_accepted
returns-clause-commands_accepted c = λ lib g bytes tree items d ds nodes last e f l some good.
    to-commands lib g bytes tree items d ds _ e f l some ∙ ap (finished nodes) good

pub returns-clause-refused : goal.returns-clause-refused
returns-clause-refused c = λ lib nodes p ds number why. (refused-found lib nodes p ds number why, refused-is lib nodes p ds number why)

pub returns-clause-accepted : goal.returns-clause-accepted
returns-clause-accepted c = λ lib nodes p ds last. (accepted-found lib nodes p ds last, accepted-is lib nodes p ds last)
