use Rattle.std.proofs.Common.{◌-◌, length, refl, arith, List}
use Rattle.std.specs.Arc.{arc_value}
use Rattle.model_graph.specs.Graph.{Decl}
use Rattle.model_program.specs.Follows.{View, view, IsPartOf}
use Rattle.model_site.specs.Plan.{Plan}
use Rattle.model_site.specs.Program.{opening, scripted}
use Rattle.model_site.proofs.PlanLaws.{follows-then, follows-stop}
use Rattle.lasp_graph.specs.Library.{library_of}
use Rattle.lasp_call.specs.Words.{words_of}
use Rattle.lasp_site.specs.Failure.{answered}
use Rattle.lasp_site.proofs.site.run_words.Goals as goal

pub returns-in-Ok-clause-follows : goal.returns-in-Ok-clause-follows
returns-in-Ok-clause-follows g c =
    let opened : View = view (g.F.Files.content c.args.files.now) (g.F.Files.faults c.args.files.now) (g.F.Files.faults c.open_graph.new.files) in
    let rest : View = view (g.F.Files.content c.open_graph.new.files) (g.F.Files.faults c.open_graph.new.files) (g.F.Files.faults c.run_site.new.files) in
    let whole : View = view (g.F.Files.content c.args.files.now) (g.F.Files.faults c.args.files.now) (g.F.Files.faults c.run_site.new.files) in
    let first : IsPartOf opened whole = record { content = λ n. refl; before = λ n. omega arith; after = λ n. c.run_site.ensures.later n } in
    let second : IsPartOf rest whole = record { content = λ n. c.in-Ok.ensures.same n; before = λ n. c.in-Ok.ensures.later n; after = λ n. omega arith } in
    let next : List Decl → Plan = scripted (library_of c.args.lib.now) c.args.me (length c.args.words.now - 4) in
    follows-then (words_of c.args.words.now) opened rest whole (opening (library_of c.args.lib.now)) (arc_value c.in-Ok.graph) next (answered c.run_site.result) first second c.in-Ok.ensures.part c.run_site.ensures.follows

pub returns-in-Err-clause-follows : goal.returns-in-Err-clause-follows
returns-in-Err-clause-follows g c =
    let opened : View = view (g.F.Files.content c.args.files.now) (g.F.Files.faults c.args.files.now) (g.F.Files.faults c.open_graph.new.files) in
    follows-stop (words_of c.args.words.now) opened (opening (library_of c.args.lib.now)) (scripted (library_of c.args.lib.now) c.args.me (length c.args.words.now - 4)) c.in-Err.failure c.in-Err.ensures.part
