use Rattle.std.proofs.Common.{subst}
use Rattle.std.specs.Prelude.{List, ℕ, Ok}
use Rattle.std.specs.Arc.{arc_value}
use Rattle.std.specs.declared.vec.Vec.{Vec}
use Rattle.std.specs.declared.alloc.Global.{Global}
use Rattle.model_graph.specs.Graph.{Decl}
use Rattle.model_program.specs.Plan.{Says, exactly}
use Rattle.model_program.specs.Follows.{view, Gives}
use Rattle.model_program.specs.Check.{check_text}
use Rattle.model_program.proofs.PlanLaws.{part-itself, follows-says}
use Rattle.lasp_call.specs.Words.{words_of, answered}
use Rattle.lasp_run.proofs.PartLaws.{gives-answered}
use Rattle.lasp_run.proofs.check.run_check.Goals as goal

pub returns-in-Ok-clause-follows : goal.returns-in-Ok-clause-follows
returns-in-Ok-clause-follows g c =
    let v = view (g.F.Files.content c.args.files.now) (g.F.Files.faults c.args.files.now) (g.F.Files.faults c.open_graph.new.files) in
    c.in-Ok.ensures.part v (part-itself v) (λ (graph : List Decl). Says (exactly (Ok (check_text graph)))) (answered c.text_of.result)
    (follows-says (words_of c.args.words.now) v (Ok (check_text (arc_value c.in-Ok.graph))) (answered c.text_of.result)
    (gives-answered (Ok (check_text (arc_value c.in-Ok.graph))) c.text_of.result
    (subst (λ (graph : List Decl). Gives (λ (text : Vec ℕ Global). text.items) (Ok (check_text graph)) c.text_of.result) c.deref.ensures c.text_of.ensures)))

pub returns-in-Err-clause-follows : goal.returns-in-Err-clause-follows
returns-in-Err-clause-follows g c =
    let v = view (g.F.Files.content c.args.files.now) (g.F.Files.faults c.args.files.now) (g.F.Files.faults c.open_graph.new.files) in
    c.in-Err.ensures.part v (part-itself v) (λ (graph : List Decl). Says (exactly (Ok (check_text graph))))
