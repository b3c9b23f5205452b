use Rattle.std.proofs.Common.{subst}
use Rattle.std.specs.Prelude.{ℕ, List}
use Rattle.std.specs.Arc.{arc_value}
use Rattle.model_graph.specs.Graph.{Decl}
use Rattle.lasp_run.specs.Run.{IsStop}
use Rattle.lasp_run.proofs.DeltaLaws.{deltas-told, deltas-stopped}
use Rattle.lasp_run.proofs.deltas.report.Goals as goal

pub returns-in-Ok : goal.returns-in-Ok
returns-in-Ok g c = deltas-told (arc_value c.args.graph.now) c.args.script.now c.in-Ok.ensures.0 c.in-Ok.text.items c.in-Ok.ensures.1 c.in-Ok.ensures.2

pub returns-in-Err : goal.returns-in-Err
returns-in-Err g c =
    -- (a failure is the same whatever a text is kept in)
    deltas-stopped ℕ (arc_value c.args.graph.now) c.args.script.now c.failure_of.result (subst (λ (graph : List Decl). IsStop graph c.args.script.now c.failure_of.result) c.deref.ensures c.failure_of.ensures)
