use Rattle.std.proofs.Common.{ℕ, List, subst}
use Rattle.std.specs.Arc.{arc_value}
use Rattle.model_core.specs.Core.{Core}
use Rattle.model_graph.specs.Graph.{Decl}
use Rattle.model_program.specs.Summary.{load_text}
use Rattle.model_world.specs.Command.{Script}
use Rattle.model_world.specs.World.{Run}
use Rattle.lasp_top.specs.Summary.{IsSummary}
use Rattle.lasp_run.proofs.PartLaws.{run-ended}
use Rattle.lasp_top.proofs.ClosedLaws.{EndsAs, summary-text}
use Rattle.lasp_top.proofs.load.summary.Goals as goal

pub returns-in-Ok-load_text : goal.returns-in-Ok-load_text
returns-in-Ok-load_text g c =
    let graph : List Decl = arc_value c.args.graph.now in
    let script : Script = c.args.script.now in
    let ran = c.in-Ok.ensures in
    let run : Run = ran.0 in
    let cores : List Core = c.in-Ok.cores.items in
    let text : List ℕ = c.in-Ok-load_text.text.items in
    let ends : EndsAs graph script run = λ p low h legal made. c.journals_with_the_calls_have_the_sources.ensures.script graph script run legal.opening c.requires.lawful ran.1 p low h legal made in
    let told : IsSummary c.args.seed c.args.count cores text = subst (λ (cs : List Core). IsSummary c.args.seed c.args.count cs text) c.deref.ensures.value c.in-Ok-load_text.ensures in
    run-ended (load_text c.args.seed c.args.count) graph script run text ran.1 (summary-text graph script run cores ran.3 ends c.args.seed c.args.count text told)
