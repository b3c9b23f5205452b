use Rattle.std.specs.Prelude.{List}
use Rattle.model_graph.specs.Graph.{Decl}
use Rattle.model_world.specs.Command.{Script}
use Rattle.model_program.specs.Follows.{View, view}
use Rattle.model_program.specs.Plan.{Answer}
use Rattle.model_program.specs.Threads.{trace_answer}
use Rattle.lasp_graph.specs.Library.{library_of}
use Rattle.lasp_run.specs.Run.{opened_of, opening_run}
use Rattle.lasp_call.specs.Words.{words_of, answered}
use Rattle.lasp_top.proofs.ClosedLaws.{follows-part, follows-stop}
use Rattle.lasp_top.proofs.trace.run_traced.Goals as goal

pub returns-in-Ok-clause-follows : goal.returns-in-Ok-clause-follows
returns-in-Ok-clause-follows g c =
    let v : View = view (g.F.Files.content c.args.files.now) (g.F.Files.faults c.args.files.now) (g.F.Files.faults c.open_run.new.files) in
    let answer : List Decl × Script → Answer = λ o. trace_answer o.0 o.1 in
    follows-part (words_of c.args.words.now) v (opening_run (library_of c.args.lib.now)) (opened_of c.in-Ok.opened) answer (answered c.trace.result) c.in-Ok.ensures.part c.trace.ensures

pub returns-in-Err-clause-follows : goal.returns-in-Err-clause-follows
returns-in-Err-clause-follows g c =
    let v : View = view (g.F.Files.content c.args.files.now) (g.F.Files.faults c.args.files.now) (g.F.Files.faults c.open_run.new.files) in
    let answer : List Decl × Script → Answer = λ o. trace_answer o.0 o.1 in
    follows-stop (words_of c.args.words.now) v (opening_run (library_of c.args.lib.now)) answer c.in-Err.failure c.in-Err.ensures.part
