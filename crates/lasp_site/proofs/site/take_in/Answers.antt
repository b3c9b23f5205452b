use Rattle.std.proofs.Common.{◌-◌, length}
use Rattle.std.specs.Arc.{arc_value}
use Rattle.model_program.specs.Follows.{view}
use Rattle.model_site.specs.Program.{taking_in}
use Rattle.model_site.proofs.PlanLaws.{follows-memory}
use Rattle.lasp_call.specs.Words.{words_of}
use Rattle.lasp_site.proofs.site.take_in.Goals as goal

pub returns-in-Err-clause-follows : goal.returns-in-Err-clause-follows
returns-in-Err-clause-follows g c =
    follows-memory (words_of c.args.words.now) (view (g.F.Files.content c.args.files.now) (g.F.Files.faults c.args.files.now) (g.F.Files.faults c.args.files.now)) (taking_in c.args.me (arc_value c.args.graph.now) c.args.script.now (length c.args.words.now - 4))
