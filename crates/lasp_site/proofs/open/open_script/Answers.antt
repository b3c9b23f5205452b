use Rattle.std.proofs.Common.{sym, subst}
use Rattle.model_scripts.specs.Script.{script_of}
use Rattle.model_world.specs.Command.{Script}
use Rattle.model_program.specs.Program.{script_refused}
use Rattle.model_site.specs.Program.{scripting}
use Rattle.lasp_graph.specs.Library.{library_of}
use Rattle.model_program.specs.Follows.{view}
use Rattle.model_site.specs.Follows.{Stops}
use Rattle.model_site.specs.declared.site_failure.SiteFailure.{SiteFailure}
use Rattle.lasp_call.specs.Words.{words_of}
use Rattle.lasp_site.proofs.OpenLaws.{passes-opens, stops-opens}
use Rattle.lasp_site.proofs.open.open_script.Goals as goal

pub returns-in-Ok-clause-part : goal.returns-in-Ok-clause-part
returns-in-Ok-clause-part g c =
    passes-opens (λ (s : Script). s) (words_of c.args.words.now) (view (g.F.Files.content c.args.files.now) (g.F.Files.faults c.args.files.now) (g.F.Files.faults c.open_script.new.files)) 3
    script_refused (script_of (library_of c.args.lib.now) c.args.graph.now) c.in-Ok.script c.in-Ok.ensures.opens

pub returns-in-Err-clause-part : goal.returns-in-Err-clause-part
returns-in-Err-clause-part g c =
    let v = (view (g.F.Files.content c.args.files.now) (g.F.Files.faults c.args.files.now) (g.F.Files.faults c.open_script.new.files)) in
    subst (λ (failure : SiteFailure). Stops (words_of c.args.words.now) v (scripting (library_of c.args.lib.now) c.args.graph.now) failure) (sym c.shared_failure.ensures)
    (stops-opens (λ (s : Script). s) (words_of c.args.words.now) v 3 script_refused (script_of (library_of c.args.lib.now) c.args.graph.now) c.in-Err.failure c.in-Err.ensures.opens)
