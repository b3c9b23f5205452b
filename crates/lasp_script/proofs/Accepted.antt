-- What holds of each script that reading accepts holds of the one that was returned.
use Rattle.std.proofs.Common.{◌≡◌, ℕ, Result, Ok, Err, IfOk, List}
use Rattle.model_functions.specs.Library.{Library}
use Rattle.model_graph.specs.Graph.{Decl}
use Rattle.model_world.specs.Command.{Script}
use Rattle.model_scripts.specs.Script.{script_of}
use Rattle.lasp_script.specs.declared.refused.ScriptRefused.{ScriptRefused}
use Rattle.lasp_script.specs.Answers.{Gives}

pub of-accepted : (P : Script → Type 0) (lib : Library) (g : List Decl) (bytes : List ℕ) (r : Result Script ScriptRefused)
    → ((s : Script) → script_of lib g bytes ≡ Ok s → P s) → Gives (λ s. s) r (script_of lib g bytes) → IfOk r P
of-accepted P lib g bytes (Ok s) all read = all s read
of-accepted P lib g bytes (Err e) all read = tt
