use Rattle.model_world.specs.Command.{Script}
use Rattle.model_scripts.specs.Script.{script_of}
use Rattle.model_program.specs.Follows.{view}
use Rattle.model_program.specs.Program.{script_refused}
use Rattle.lasp_graph.specs.Library.{library_of}
use Rattle.lasp_call.specs.Words.{words_of}
use Rattle.lasp_run.proofs.OpenLaws.{performs-opens}
use Rattle.lasp_run.proofs.open.open_script.Goals as goal

pub returns-clause-part : goal.returns-clause-part
returns-clause-part g c =
    performs-opens (λ (s : Script). s) (words_of c.args.words.now) (view (g.F.Files.content c.args.files.now) (g.F.Files.faults c.args.files.now) (g.F.Files.faults c.open_script.new.files)) 2 script_refused (script_of (library_of c.args.lib.now) c.args.graph.now) c.open_script.result c.open_script.ensures.opens
