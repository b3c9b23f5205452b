use Rattle.std.specs.Prelude.{ℕ, List, Result}
use Rattle.model_graph.specs.Graph.{Decl}
use Rattle.model_world.specs.Command.{Script}
use Rattle.model_program.specs.Follows.{View, view}
use Rattle.model_program.specs.Program.{delta_answer}
use Rattle.model_program.specs.declared.refusal.Refusal.{Refusal}
use Rattle.lasp_graph.specs.Library.{library_of}
use Rattle.lasp_run.specs.Run.{opened_of, opening_run}
use Rattle.lasp_call.specs.Words.{words_of}
use Rattle.lasp_run.proofs.PartLaws.{follows-part, follows-stop}
use Rattle.lasp_run.proofs.deltas.run_deltas.Goals as goal

pub returns-in-Ok-clause-follows : goal.returns-in-Ok-clause-follows
returns-in-Ok-clause-follows g c =
    let v : View = view (g.F.Files.content c.args.files.now) (g.F.Files.faults c.args.files.now) (g.F.Files.faults c.open_run.new.files) in
    let answer : List Decl × Script → Result (List ℕ) Refusal = λ o. delta_answer o.0 o.1 in
    follows-part (words_of c.args.words.now) v (opening_run (library_of c.args.lib.now)) (opened_of c.in-Ok.opened) answer c.report.result c.in-Ok.ensures.part c.report.ensures

pub returns-in-Err-clause-follows : goal.returns-in-Err-clause-follows
returns-in-Err-clause-follows g c =
    let v : View = view (g.F.Files.content c.args.files.now) (g.F.Files.faults c.args.files.now) (g.F.Files.faults c.open_run.new.files) in
    let answer : List Decl × Script → Result (List ℕ) Refusal = λ o. delta_answer o.0 o.1 in
    follows-stop (words_of c.args.words.now) v (opening_run (library_of c.args.lib.now)) answer c.in-Err.failure c.in-Err.ensures.part
