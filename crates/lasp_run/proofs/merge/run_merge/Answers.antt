use Rattle.std.proofs.Common.{◌-◌, List, length, refl, arith}
use Rattle.std.specs.Arc.{arc_value}
use Rattle.model_graph.specs.Graph.{Decl}
use Rattle.model_program.specs.Plan.{Plan}
use Rattle.model_program.specs.Follows.{View, view, IsPartOf}
use Rattle.model_program.specs.Merge.{merging_files}
use Rattle.model_program.proofs.PlanLaws.{follows-wider, part-itself}
use Rattle.lasp_call.specs.Words.{words_of, answered}
use Rattle.lasp_run.proofs.merge.run_merge.Goals as goal

pub returns-in-Ok-clause-follows : goal.returns-in-Ok-clause-follows
returns-in-Ok-clause-follows g c =
    let opened : View = view (g.F.Files.content c.args.files.now) (g.F.Files.faults c.args.files.now) (g.F.Files.faults c.open_graph.new.files) in
    let rest : View = view (g.F.Files.content c.open_graph.new.files) (g.F.Files.faults c.open_graph.new.files) (g.F.Files.faults c.merge_files.new.files) in
    let whole : View = view (g.F.Files.content c.args.files.now) (g.F.Files.faults c.args.files.now) (g.F.Files.faults c.merge_files.new.files) in
    let first : IsPartOf opened whole = record { content = λ n. refl; before = λ n. omega arith; after = λ n. c.merge_files.ensures.later n } in
    let second : IsPartOf rest whole = record { content = λ n. c.in-Ok.ensures.same n; before = λ n. c.in-Ok.ensures.later n; after = λ n. omega arith } in
    let next : List Decl → Plan = λ graph. merging_files graph (length c.args.words.now - 3) in
    c.in-Ok.ensures.part whole first next (answered c.merge_files.result)
    (follows-wider (words_of c.args.words.now) rest whole (merging_files (arc_value c.in-Ok.graph) (length c.args.words.now - 3)) (answered c.merge_files.result) second c.merge_files.ensures.follows)

pub returns-in-Err-clause-follows : goal.returns-in-Err-clause-follows
returns-in-Err-clause-follows g c =
    let opened : View = view (g.F.Files.content c.args.files.now) (g.F.Files.faults c.args.files.now) (g.F.Files.faults c.open_graph.new.files) in
    let next : List Decl → Plan = λ graph. merging_files graph (length c.args.words.now - 3) in
    c.in-Err.ensures.part opened (part-itself opened) next
