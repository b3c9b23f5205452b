-- The parts of the program's plans over told contents: the graph's file, and then the script's.
use Rattle.std.proofs.Common.{ap, ◌∙◌}
use Rattle.std.specs.Prelude.{◌≡◌, ◌<◌, ℕ, List, length, Option, Some, Ok, Err, Result}
use Rattle.model_functions.specs.Library.{Library}
use Rattle.model_graph.specs.Graph.{Decl}
use Rattle.model_graph.specs.Chain.{◌>>=◌, refusing}
use Rattle.model_world.specs.Command.{Script}
use Rattle.model_world.specs.World.{Run, ended}
use Rattle.model_world.specs.declared.stop.Stop.{Stop}
use Rattle.model_readings.specs.Graph.{graph_of}
use Rattle.model_readings.specs.declared.graph_why.GraphWhy.{GraphWhy}
use Rattle.model_scripts.specs.Progress.{grown}
use Rattle.model_scripts.specs.Script.{script_of}
use Rattle.model_scripts.specs.declared.script_why.ScriptWhy.{ScriptWhy}
use Rattle.model_program.specs.Plan.{Plan, Says, exactly, told_answer, word_at, file_limit, checked}
use Rattle.model_program.specs.Program.{form, plan, plan_of, opening, scripting, run_answer, graph_refused, script_refused, stopped}
use Rattle.model_program.specs.declared.form.Form.{Form}
use Rattle.model_program.specs.declared.refusal.Refusal.{Refusal}
use Rattle.model_program.specs.declared.refusal.Refusal.TheVariants as refusal
use Rattle.model_program.specs.Told.{IsFileTold, IsGraphTold, IsScriptTold}
use Rattle.model_program.proofs.CauseLaws.{told-short, told-long, told-checked, told-refused, told-answer}

pub told-form : (lib : Library) (content : List ℕ → Option (List ℕ)) (words : List (List ℕ)) (f : Form) → form words ≡ f → told_answer content words (plan lib words) ≡ told_answer content words (plan_of lib words f)
told-form lib content words f e = ap (λ (k : Form). told_answer content words (plan_of lib words k)) e

module _ (lib : Library) (content : List ℕ → Option (List ℕ)) (words : List (List ℕ)) (next : List Decl → Plan) where
  pub opening-long : (graph : List ℕ) → content (word_at words 1) ≡ Some graph → file_limit < length graph
      → told_answer content words (opening lib next) ≡ Some (Err (refusal.TooLong 1))
  opening-long graph told long = told-long content words 1 graph (λ bytes. checked graph_refused (graph_of lib bytes) next) told long

  pub opening-refused : (graph : List ℕ) (number : ℕ) (why : GraphWhy) → IsFileTold content words 1 graph → graph_of lib graph ≡ Err (number, why)
      → told_answer content words (opening lib next) ≡ Some (Err (refusal.Graph number why))
  opening-refused graph number why file bad =
      told-short content words 1 graph (λ bytes. checked graph_refused (graph_of lib bytes) next) file.told file.short
      ∙ told-refused content words graph_refused (graph_of lib graph) (number, why) next bad

  pub opening-read : (g : List Decl) → IsGraphTold lib content words g → told_answer content words (opening lib next) ≡ told_answer content words (next g)
  opening-read g graph =
      told-short content words 1 graph.bytes (λ bytes. checked graph_refused (graph_of lib bytes) next) graph.file.told graph.file.short
      ∙ told-checked content words graph_refused (graph_of lib graph.bytes) g next graph.read

module _ (lib : Library) (content : List ℕ → Option (List ℕ)) (words : List (List ℕ)) (g : List Decl) (next : Script → Plan) where
  pub scripting-long : (script : List ℕ) → content (word_at words 2) ≡ Some script → file_limit < length script
      → told_answer content words (scripting lib g next) ≡ Some (Err (refusal.TooLong 2))
  scripting-long script told long = told-long content words 2 script (λ bytes. checked script_refused (script_of lib g bytes) next) told long

  pub scripting-refused : (script : List ℕ) (number : ℕ) (why : ScriptWhy) → IsFileTold content words 2 script → script_of lib g script ≡ Err (number, why)
      → told_answer content words (scripting lib g next) ≡ Some (Err (refusal.Script number why))
  scripting-refused script number why file bad =
      told-short content words 2 script (λ bytes. checked script_refused (script_of lib g bytes) next) file.told file.short
      ∙ told-refused content words script_refused (script_of lib g script) (number, why) next bad

  pub scripting-read : (s : Script) → IsScriptTold lib content words g s → told_answer content words (scripting lib g next) ≡ told_answer content words (next s)
  scripting-read s script =
      told-short content words 2 script.bytes (λ bytes. checked script_refused (script_of lib g bytes) next) script.file.told script.file.short
      ∙ told-checked content words script_refused (script_of lib g script.bytes) s next script.read

-- what a run with this end answers
abbrev pub ended_answer : (Run → List ℕ) → List Decl → Script → Result Run Stop → Result (List ℕ) Refusal
ended_answer output g s r = refusing (stopped (grown g s.commands)) r >>= (λ run. Ok (output run))

pub run-ends : (output : Run → List ℕ) (g : List Decl) (s : Script) (r : Result Run Stop) → ended g s ≡ r → run_answer output g s ≡ ended_answer output g s r
run-ends output g s r ends = ap (ended_answer output g s) ends

-- graph and script are accepted
module _ (lib : Library) (content : List ℕ → Option (List ℕ)) (words : List (List ℕ)) (g : List Decl) (answer : List Decl → Script → Result (List ℕ) Refusal) where
  pub to-script : IsGraphTold lib content words g → told_answer content words (opening lib (λ h. scripting lib h (λ s. Says (exactly (answer h s))))) ≡ told_answer content words (scripting lib g (λ s. Says (exactly (answer g s))))
  to-script graph = opening-read lib content words (λ h. scripting lib h (λ s. Says (exactly (answer h s)))) g graph

  pub to-answer : (s : Script) (is : Result (List ℕ) Refusal) → IsGraphTold lib content words g → IsScriptTold lib content words g s → answer g s ≡ is
      → told_answer content words (opening lib (λ h. scripting lib h (λ s. Says (exactly (answer h s))))) ≡ Some (exactly is)
  to-answer s is graph script e = to-script graph ∙ scripting-read lib content words g (λ k. Says (exactly (answer g k))) s script ∙ told-answer content words (exactly (answer g s)) (exactly is) (ap exactly e)
