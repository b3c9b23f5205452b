use Rattle.model_world.specs.Command.{Script}
use Rattle.model_program.specs.Plan.{Says, exactly}
use Rattle.model_program.specs.Follows.{view}
use Rattle.model_program.specs.Dots.{dots_answer}
use Rattle.model_program.proofs.PlanLaws.{part-itself, follows-says}
use Rattle.lasp_call.specs.Words.{words_of, answered}
use Rattle.lasp_run.proofs.PartLaws.{gives-answered}
use Rattle.lasp_run.proofs.dots.answer_dots.Goals as goal

pub returns-in-Ok-clause-follows : goal.returns-in-Ok-clause-follows
returns-in-Ok-clause-follows g c =
    let v = view (g.F.Files.content c.args.files.now) (g.F.Files.faults c.args.files.now) (g.F.Files.faults c.open_dots.new.files) in
    c.in-Ok.ensures.part v (part-itself v) (λ (s : Script). Says (exactly (dots_answer s))) (answered c.text_of.result)
    (follows-says (words_of c.args.words.now) v (dots_answer c.in-Ok.script) (answered c.text_of.result) (gives-answered (dots_answer c.in-Ok.script) c.text_of.result c.text_of.ensures))

pub returns-in-Err-clause-follows : goal.returns-in-Err-clause-follows
returns-in-Err-clause-follows g c =
    let v = view (g.F.Files.content c.args.files.now) (g.F.Files.faults c.args.files.now) (g.F.Files.faults c.open_dots.new.files) in
    c.in-Err.ensures.part v (part-itself v) (λ (s : Script). Says (exactly (dots_answer s)))
