use Rattle.std.proofs.Common.{refl, subst, arith}
use Rattle.std.specs.Prelude.{List}
use Rattle.std.specs.Arc.{arc_value}
use Rattle.model_graph.specs.Graph.{Decl}
use Rattle.model_world.specs.Command.{Script}
use Rattle.model_program.specs.Follows.{View, view, IsPartOf, Part, Passes, Stops}
use Rattle.model_program.specs.Program.{opening, scripting}
use Rattle.lasp_graph.specs.Library.{library_of}
use Rattle.lasp_call.specs.Words.{words_of}
use Rattle.lasp_run.proofs.PartLaws.{passes-then, stops-then, stops-first}
use Rattle.lasp_run.proofs.open.open_run.Goals as goal

pub returns-in-Ok-open_script-clause-part : goal.returns-in-Ok-open_script-clause-part
returns-in-Ok-open_script-clause-part g c =
    let first : View = view (g.F.Files.content c.args.files.now) (g.F.Files.faults c.args.files.now) (g.F.Files.faults c.open_graph.new.files) in
    let second : View = view (g.F.Files.content c.open_graph.new.files) (g.F.Files.faults c.open_graph.new.files) (g.F.Files.faults c.open_script.new.files) in
    let whole : View = view (g.F.Files.content c.args.files.now) (g.F.Files.faults c.args.files.now) (g.F.Files.faults c.open_script.new.files) in
    let early : IsPartOf first whole = record { content = λ n. refl; before = λ n. omega arith; after = λ n. c.in-Ok-open_script.ensures.later n } in
    let late : IsPartOf second whole = record { content = λ n. c.in-Ok.ensures.same n; before = λ n. c.in-Ok.ensures.later n; after = λ n. omega arith } in
    let both : List Decl → Part (List Decl × Script) = λ graph next. scripting (library_of c.args.lib.now) graph (λ script. next (graph, script)) in
    let script : Passes (words_of c.args.words.now) second (scripting (library_of c.args.lib.now) (arc_value c.in-Ok.graph)) c.in-Ok-open_script.script =
    subst (λ (graph : List Decl). Passes (words_of c.args.words.now) second (scripting (library_of c.args.lib.now) graph) c.in-Ok-open_script.script) c.deref.ensures c.in-Ok-open_script.ensures.part in
    passes-then (words_of c.args.words.now) first second whole (opening (library_of c.args.lib.now)) both (arc_value c.in-Ok.graph) (arc_value c.in-Ok.graph, c.in-Ok-open_script.script) early late c.in-Ok.ensures.part
    (λ w part next r h. script w part (λ s. next (arc_value c.in-Ok.graph, s)) r h)

pub returns-in-Err-open_script-clause-part : goal.returns-in-Err-open_script-clause-part
returns-in-Err-open_script-clause-part g c =
    let first : View = view (g.F.Files.content c.args.files.now) (g.F.Files.faults c.args.files.now) (g.F.Files.faults c.open_graph.new.files) in
    let second : View = view (g.F.Files.content c.open_graph.new.files) (g.F.Files.faults c.open_graph.new.files) (g.F.Files.faults c.open_script.new.files) in
    let whole : View = view (g.F.Files.content c.args.files.now) (g.F.Files.faults c.args.files.now) (g.F.Files.faults c.open_script.new.files) in
    let early : IsPartOf first whole = record { content = λ n. refl; before = λ n. omega arith; after = λ n. c.in-Err-open_script.ensures.later n } in
    let late : IsPartOf second whole = record { content = λ n. c.in-Ok.ensures.same n; before = λ n. c.in-Ok.ensures.later n; after = λ n. omega arith } in
    let both : List Decl → Part (List Decl × Script) = λ graph next. scripting (library_of c.args.lib.now) graph (λ script. next (graph, script)) in
    let script : Stops (words_of c.args.words.now) second (scripting (library_of c.args.lib.now) (arc_value c.in-Ok.graph)) c.in-Err-open_script.failure =
    subst (λ (graph : List Decl). Stops (words_of c.args.words.now) second (scripting (library_of c.args.lib.now) graph) c.in-Err-open_script.failure) c.deref.ensures c.in-Err-open_script.ensures.part in
    stops-then (words_of c.args.words.now) first second whole (opening (library_of c.args.lib.now)) both (arc_value c.in-Ok.graph) c.in-Err-open_script.failure early late c.in-Ok.ensures.part
    (λ w part next. script w part (λ s. next (arc_value c.in-Ok.graph, s)))

pub returns-in-Err-clause-part : goal.returns-in-Err-clause-part
returns-in-Err-clause-part g c =
    let first : View = view (g.F.Files.content c.args.files.now) (g.F.Files.faults c.args.files.now) (g.F.Files.faults c.open_graph.new.files) in
    let both : List Decl → Part (List Decl × Script) = λ graph next. scripting (library_of c.args.lib.now) graph (λ script. next (graph, script)) in
    stops-first (words_of c.args.words.now) first (opening (library_of c.args.lib.now)) both c.in-Err.failure c.in-Err.ensures.part
