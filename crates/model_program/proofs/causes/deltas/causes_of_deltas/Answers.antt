use Rattle.std.proofs.Common.{◌≡◌, ℕ, List, Option, Some, Err, sym, subst}
use Rattle.model_functions.specs.Library.{Library}
use Rattle.model_program.specs.Cause.{ReadsGraph, IsGraphRefused, graph_long, graph_bad, graph_refused, script_long, script_bad, delta_refused, delta_stopped, delta_done}
use Rattle.model_program.specs.Plan.{told_answer}
use Rattle.model_program.specs.Program.{form, plan}
use Rattle.model_program.specs.declared.form.Form.{Form}
use Rattle.model_program.specs.declared.form.Form.TheVariants.{Delta}
use Rattle.model_program.specs.declared.refusal.Refusal.{Refusal}
use Rattle.model_program.proofs.BackLaws.{cause-told}
use Rattle.model_program.proofs.causes.deltas.causes_of_deltas.Goals as goal

by-graph : (lib : Library) (content : List ℕ → Option (List ℕ)) (words : List (List ℕ)) (x : Refusal) → form words ≡ Delta → IsGraphRefused lib content words x → told_answer content words (plan lib words) ≡ Some (Err x)
by-graph lib content words x is h = cause-told lib content words (Err x) (graph_refused (subst (λ (f : Form). ReadsGraph f) (sym is) tt) h)

pub returns-clause-graph_too_long : goal.returns-clause-graph_too_long
returns-clause-graph_too_long c = λ lib content words graph is file many. by-graph lib content words _ is (graph_long file many)

pub returns-clause-graph_refused : goal.returns-clause-graph_refused
returns-clause-graph_refused c = λ lib content words graph number why is file e. by-graph lib content words _ is (graph_bad file e)

pub returns-clause-script_too_long : goal.returns-clause-script_too_long
returns-clause-script_too_long c = λ lib content words script g is graph file many. cause-told lib content words _ (delta_refused is graph (script_long file many))

pub returns-clause-script_refused : goal.returns-clause-script_refused
returns-clause-script_refused c = λ lib content words script g number why is graph file e. cause-told lib content words _ (delta_refused is graph (script_bad file e))

pub returns-clause-run_stopped : goal.returns-clause-run_stopped
returns-clause-run_stopped c = λ lib content words g s halt is graph script e. cause-told lib content words _ (delta_stopped is graph script e)

pub returns-clause-written : goal.returns-clause-written
returns-clause-written c = λ lib content words g s run is graph script e. cause-told lib content words _ (delta_done is graph script e)
