use Rattle.std.proofs.Common.{◌-◌, List, length, refl, subst, arith}
use Rattle.std.specs.Arc.{arc_value}
use Rattle.model_graph.specs.Graph.{Decl}
use Rattle.model_world.specs.Command.{Script}
use Rattle.model_program.specs.Follows.{View, view, IsPartOf}
use Rattle.model_site.specs.Follows.{Passes, Stops}
use Rattle.model_site.specs.Plan.{Plan, given}
use Rattle.model_site.specs.Program.{scripting, is_for, taking_in}
use Rattle.model_site.proofs.PlanLaws.{follows-then, follows-stop}
use Rattle.lasp_graph.specs.Library.{library_of}
use Rattle.lasp_call.specs.Words.{words_of}
use Rattle.lasp_site.specs.Failure.{answered}
use Rattle.lasp_site.proofs.site.run_site.Goals as goal

pub returns-in-Ok-clause-follows : goal.returns-in-Ok-clause-follows
returns-in-Ok-clause-follows g c =
    let opened : View = view (g.F.Files.content c.args.files.now) (g.F.Files.faults c.args.files.now) (g.F.Files.faults c.open_script.new.files) in
    let rest : View = view (g.F.Files.content c.open_script.new.files) (g.F.Files.faults c.open_script.new.files) (g.F.Files.faults c.run_script.new.files) in
    let whole : View = view (g.F.Files.content c.args.files.now) (g.F.Files.faults c.args.files.now) (g.F.Files.faults c.run_script.new.files) in
    let first : IsPartOf opened whole = record { content = λ n. refl; before = λ n. omega arith; after = λ n. c.run_script.ensures.later n } in
    let second : IsPartOf rest whole = record { content = λ n. c.in-Ok.ensures.same n; before = λ n. c.in-Ok.ensures.later n; after = λ n. omega arith } in
    let next : Script → Plan = λ s. given (is_for c.args.me s) (λ u. taking_in c.args.me (arc_value c.args.graph.now) s (length c.args.words.now - 4)) in
    follows-then (words_of c.args.words.now) opened rest whole (scripting (library_of c.args.lib.now) (arc_value c.args.graph.now)) c.in-Ok.script next (answered c.run_script.result) first second
    (subst (λ (ds : List Decl). Passes {B = Script} (words_of c.args.words.now) opened (scripting (library_of c.args.lib.now) ds) c.in-Ok.script) c.deref.ensures c.in-Ok.ensures.part) c.run_script.ensures.follows

pub returns-in-Err-clause-follows : goal.returns-in-Err-clause-follows
returns-in-Err-clause-follows g c =
    let opened : View = view (g.F.Files.content c.args.files.now) (g.F.Files.faults c.args.files.now) (g.F.Files.faults c.open_script.new.files) in
    let next : Script → Plan = λ s. given (is_for c.args.me s) (λ u. taking_in c.args.me (arc_value c.args.graph.now) s (length c.args.words.now - 4)) in
    follows-stop (words_of c.args.words.now) opened (scripting (library_of c.args.lib.now) (arc_value c.args.graph.now)) next c.in-Err.failure
    (subst (λ (ds : List Decl). Stops {B = Script} (words_of c.args.words.now) opened (scripting (library_of c.args.lib.now) ds) c.in-Err.failure) c.deref.ensures c.in-Err.ensures.part)
