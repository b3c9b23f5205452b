-- A run beside what was made of it.
use Rattle.std.specs.Prelude.{◌≡◌, List, Err}
use Rattle.std.specs.Arc.{arc_value}
use Rattle.model_functions.specs.Library.{Library}
use Rattle.model_graph.specs.Chain.{refusing}
use Rattle.model_graph.specs.Graph.{Decl}
use Rattle.model_world.specs.Command.{Script}
use Rattle.model_world.specs.World.{ended}
use Rattle.model_scripts.specs.Progress.{grown}
use Rattle.model_program.specs.Follows.{Part}
use Rattle.model_program.specs.Program.{stopped, opening, scripting}
use Rattle.model_program.specs.declared.failure.Failure.{Failure}
use Rattle.model_program.specs.declared.failure.Failure.TheVariants.{Refused, ReadFault, Memory}
use Rattle.lasp_run.specs.declared.open.Opened.{Opened}

-- the failure is how the script's run stopped, or memory was wanting
abbrev pub IsStop : List Decl → Script → Failure → Type 0
IsStop g script (Refused refusal) = refusing (stopped (grown g script.commands)) (ended g script) ≡ Err refusal
IsStop g script (ReadFault f) = ⊥
IsStop g script Memory = Unit {0}

-- the graph and the script that were read
abbrev pub opened_of : Opened → List Decl × Script
opened_of o = (arc_value o.graph, o.script)

-- the reading of both
abbrev pub opening_run : Library → Part (List Decl × Script)
opening_run lib next = opening lib (λ g. scripting lib g (λ script. next (g, script)))
