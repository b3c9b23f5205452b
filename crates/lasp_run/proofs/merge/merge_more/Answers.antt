use Rattle.model_program.specs.Follows.{View, view}
use Rattle.model_program.proofs.PlanLaws.{part-itself, follows-says}
use Rattle.lasp_call.specs.Words.{words_of, answered}
use Rattle.lasp_run.proofs.PartLaws.{gives-answered}
use Rattle.lasp_run.proofs.merge.merge_more.Goals as goal

pub returns-in-Ok-clause-follows : goal.returns-in-Ok-clause-follows
returns-in-Ok-clause-follows g c =
    let v : View = view (g.F.Files.content c.args.files.now) (g.F.Files.faults c.args.files.now) (g.F.Files.faults c.merge_rest.new.files) in
    c.in-Ok.ensures.rest v (part-itself v) (answered c.merged_text.result) (follows-says (words_of c.args.words.now) v _ (answered c.merged_text.result) (gives-answered _ c.merged_text.result c.merged_text.ensures))
