use Rattle.std.proofs.Common.{ap, ◌∙◌}
use Rattle.std.specs.Prelude.{◌≡◌, ◌<◌, ℕ, ◌+◌, List, length, Bool, false, Result, Ok, Err}
use Rattle.std.proofs.lemmas.Bool.{le-ltb, lt-ltb}
use Rattle.model_graph.specs.Chain.{◌>>=◌, check}
use Rattle.model_graph.specs.Graph.{Decl}
use Rattle.model_world.specs.Command.{Script}
use Rattle.model_world.specs.World.{Run, ended}
use Rattle.model_world.specs.declared.stop.Stop.{Stop}
use Rattle.model_world.specs.declared.stop.Stop.TheVariants as stop
use Rattle.model_scripts.specs.declared.script_why.ScriptWhy.TheVariants.{NoSuchNode}
use Rattle.model_program.specs.Plan.{Says, exactly}
use Rattle.model_program.specs.Program.{exported_bytes, run_answer, export_answer, exporting_script}
use Rattle.model_program.specs.declared.form.Form.TheVariants.{Export}
use Rattle.model_program.specs.declared.refusal.Refusal.{Refusal}
use Rattle.model_program.specs.declared.refusal.Refusal.TheVariants as refusal
use Rattle.model_program.proofs.PlanCauses.{told-form, opening-long, opening-refused, scripting-long, scripting-refused, ended_answer, run-ends, to-script, to-answer}
use Rattle.model_program.proofs.causes.exports.causes_of_exports.Goals as goal

-- the answer by whether the script has the node
abbrev by_node : ℕ → List Decl → Script → Bool → Result (List ℕ) Refusal
by_node node g s has = check has (refusal.Script (length s.commands + 1) NoSuchNode) >>= λ _. run_answer (exported_bytes node) g s

-- the script has the node
has-node : (node : ℕ) (g : List Decl) (s : Script) (r : Result Run Stop) → node < s.nodes → ended g s ≡ r → export_answer node g s ≡ ended_answer (exported_bytes node) g s r
has-node node g s r has ends = ap (by_node node g s) (lt-ltb node s.nodes has) ∙ run-ends (exported_bytes node) g s r ends

pub returns-clause-graph_too_long : goal.returns-clause-graph_too_long
returns-clause-graph_too_long c = λ lib content words graph node is told long.
    told-form lib content words (Export node) is ∙ opening-long lib content words (λ g. exporting_script lib node g) graph told long

pub returns-clause-graph_refused : goal.returns-clause-graph_refused
returns-clause-graph_refused c = λ lib content words graph number why node is file bad.
    told-form lib content words (Export node) is ∙ opening-refused lib content words (λ g. exporting_script lib node g) graph number why file bad

pub returns-clause-script_too_long : goal.returns-clause-script_too_long
returns-clause-script_too_long c = λ lib content words script g node is graph told long.
    told-form lib content words (Export node) is ∙ to-script lib content words g (export_answer node) graph ∙ scripting-long lib content words g (λ s. Says (exactly (export_answer node g s))) script told long

pub returns-clause-script_refused : goal.returns-clause-script_refused
returns-clause-script_refused c = λ lib content words script g number why node is graph file bad.
    told-form lib content words (Export node) is ∙ to-script lib content words g (export_answer node) graph ∙ scripting-refused lib content words g (λ s. Says (exactly (export_answer node g s))) script number why file bad

pub returns-clause-no_such_node : goal.returns-clause-no_such_node
returns-clause-no_such_node c = λ lib content words g s node is graph script low.
    told-form lib content words (Export node) is ∙ to-answer lib content words g (export_answer node) s (by_node node g s false) graph script (ap (by_node node g s) (le-ltb node s.nodes low))

pub returns-clause-run_stopped : goal.returns-clause-run_stopped
returns-clause-run_stopped c = λ lib content words g s halt node is graph script has ends.
    told-form lib content words (Export node) is ∙ to-answer lib content words g (export_answer node) s (ended_answer (exported_bytes node) g s (Err halt)) graph script (has-node node g s (Err halt) has ends)

pub returns-clause-too_large : goal.returns-clause-too_large
returns-clause-too_large c = λ lib content words g s command at x node is graph script has ends.
    told-form lib content words (Export node) is ∙ to-answer lib content words g (export_answer node) s (ended_answer (exported_bytes node) g s (Err (stop.TooLarge command at x))) graph script (has-node node g s (Err (stop.TooLarge command at x)) has ends)

pub returns-clause-network_full : goal.returns-clause-network_full
returns-clause-network_full c = λ lib content words g s command node is graph script has ends.
    told-form lib content words (Export node) is ∙ to-answer lib content words g (export_answer node) s (ended_answer (exported_bytes node) g s (Err (stop.NetworkFull command))) graph script (has-node node g s (Err (stop.NetworkFull command)) has ends)

pub returns-clause-not_reached : goal.returns-clause-not_reached
returns-clause-not_reached c = λ lib content words g s command node is graph script has ends.
    told-form lib content words (Export node) is ∙ to-answer lib content words g (export_answer node) s (ended_answer (exported_bytes node) g s (Err (stop.NotReached command))) graph script (has-node node g s (Err (stop.NotReached command)) has ends)

pub returns-clause-exported : goal.returns-clause-exported
returns-clause-exported c = λ lib content words g s run node is graph script has ends.
    told-form lib content words (Export node) is ∙ to-answer lib content words g (export_answer node) s (ended_answer (exported_bytes node) g s (Ok run)) graph script (has-node node g s (Ok run) has ends)
