use Rattle.std.proofs.Common.{◌-◌, List, length, refl, subst, arith}
use Rattle.std.specs.Arc.{arc_value}
use Rattle.model_graph.specs.Graph.{Decl}
use Rattle.model_world.specs.World.{Peer}
use Rattle.model_program.specs.Plan.{Plan}
use Rattle.model_program.specs.Follows.{View, view, IsPartOf, Follows}
use Rattle.model_program.specs.Merge.{merging_more}
use Rattle.model_program.proofs.PlanLaws.{follows-wider}
use Rattle.lasp_call.specs.Words.{words_of, answered}
use Rattle.lasp_run.proofs.merge.merge_files.Goals as goal

pub returns-in-Ok-clause-follows : goal.returns-in-Ok-clause-follows
returns-in-Ok-clause-follows g c =
    let first : View = view (g.F.Files.content c.args.files.now) (g.F.Files.faults c.args.files.now) (g.F.Files.faults c.merge_first.new.files) in
    let rest : View = view (g.F.Files.content c.merge_first.new.files) (g.F.Files.faults c.merge_first.new.files) (g.F.Files.faults c.merge_more.new.files) in
    let whole : View = view (g.F.Files.content c.args.files.now) (g.F.Files.faults c.args.files.now) (g.F.Files.faults c.merge_more.new.files) in
    let early : IsPartOf first whole = record { content = λ n. refl; before = λ n. omega arith; after = λ n. c.merge_more.ensures.later n } in
    let late : IsPartOf rest whole = record { content = λ n. c.in-Ok.ensures.same n; before = λ n. c.in-Ok.ensures.later n; after = λ n. omega arith } in
    let next : Peer → Plan = λ r. merging_more (arc_value c.args.graph.now) 1 (length c.args.words.now - 3) r in
    let more : Follows (words_of c.args.words.now) rest (merging_more (arc_value c.args.graph.now) 1 (length c.args.words.now - 3) (g.N.Node.view c.in-Ok.node).peer) (answered c.merge_more.result) =
    subst (λ (graph : List Decl). Follows (words_of c.args.words.now) rest (merging_more graph 1 (length c.args.words.now - 3) (g.N.Node.view c.in-Ok.node).peer) (answered c.merge_more.result)) c.deref.ensures c.merge_more.ensures.follows in
    c.in-Ok.ensures.part whole early next (answered c.merge_more.result)
    (follows-wider (words_of c.args.words.now) rest whole (merging_more (arc_value c.args.graph.now) 1 (length c.args.words.now - 3) (g.N.Node.view c.in-Ok.node).peer) (answered c.merge_more.result) late more)
