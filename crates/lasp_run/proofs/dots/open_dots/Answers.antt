use Rattle.std.proofs.Common.{List, ℕ, ◌∙◌, subst}
use Rattle.model_graph.specs.Chain.{refusing}
use Rattle.model_graph.specs.Graph.{Decl}
use Rattle.model_dots.specs.DotWorld.{one_set}
use Rattle.lasp_call.specs.Opens.{Opens}
use Rattle.model_world.specs.Command.{Script}
use Rattle.model_scripts.specs.Script.{script_of}
use Rattle.model_program.specs.Follows.{view}
use Rattle.model_program.specs.Program.{script_refused}
use Rattle.lasp_graph.specs.Library.{library_of}
use Rattle.lasp_call.specs.Words.{words_of}
use Rattle.lasp_run.proofs.OpenLaws.{performs-opens}
use Rattle.lasp_run.proofs.PartLaws.{stops-memory}
use Rattle.model_program.specs.Program.{dots_scripting}
use Rattle.lasp_run.proofs.dots.open_dots.Goals as goal

pub returns-in-Ok-clause-part : goal.returns-in-Ok-clause-part
returns-in-Ok-clause-part g c =
    let v = (view (g.F.Files.content c.args.files.now) (g.F.Files.faults c.args.files.now) (g.F.Files.faults c.open_script.new.files)) in
    performs-opens (λ (s : Script). s) (words_of c.args.words.now) v 1 script_refused (script_of (library_of c.args.lib.now) one_set) c.open_script.result
    (subst (λ (graph : List Decl). Opens (λ (s : Script). s) (words_of c.args.words.now) v 1 (λ bytes. refusing script_refused (script_of (library_of c.args.lib.now) graph bytes)) c.open_script.result) c.in-Ok.ensures c.open_script.ensures.opens)

pub returns-in-Err-clause-part : goal.returns-in-Err-clause-part
returns-in-Err-clause-part g c =
    stops-memory (words_of c.args.words.now) (view (g.F.Files.content c.args.files.now) (g.F.Files.faults c.args.files.now) (g.F.Files.faults c.args.files.now)) (dots_scripting (library_of c.args.lib.now))
