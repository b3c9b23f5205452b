use Rattle.std.proofs.Common.{◌≡◌, ℕ, List, ◌++◌, subst}
use Rattle.std.specs.Arc.{arc_value}
use Rattle.model_core.specs.Core.{Core}
use Rattle.model_graph.specs.Graph.{Decl}
use Rattle.model_world.specs.Command.{Script}
use Rattle.model_world.specs.World.{Run}
use Rattle.lasp_top.specs.Closed.{traces_of}
use Rattle.lasp_top.proofs.ClosedLaws.{is-trace, trace-allows}
use Rattle.lasp_top.proofs.trace.trace.Goals as goal

pub returns-in-Ok-push_journals : goal.returns-in-Ok-push_journals
returns-in-Ok-push_journals g c =
    let graph : List Decl = arc_value c.args.graph.now in
    let script : Script = c.args.script.now in
    let ran = c.in-Ok.ensures in
    let run : Run = ran.0 in
    let cores : List Core = c.in-Ok.cores.items in
    let report : List ℕ = c.in-Ok.text.items in
    let bytes : List ℕ = c.push_journals.new.report.items in
    let more : bytes ≡ report ++ traces_of 0 cores = subst (λ (cs : List Core). bytes ≡ report ++ traces_of 0 cs) c.deref.ensures.value c.in-Ok-push_journals.ensures in
    trace-allows graph script run bytes ran.1 (is-trace graph script run cores report bytes ran.3 ran.2 more)
