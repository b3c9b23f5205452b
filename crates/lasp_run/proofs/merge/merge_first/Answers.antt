use Rattle.std.proofs.Common.{List, ℕ, None, subst}
use Rattle.std.specs.Arc.{arc_value}
use Rattle.model_program.specs.Follows.{View, view, Gives}
use Rattle.model_program.specs.Merge.{file_joined}
use Rattle.lasp_call.specs.Message.{peer_by}
use Rattle.lasp_call.specs.Words.{words_of}
use Rattle.lasp_run.proofs.MergeLaws.{performs-file}
use Rattle.lasp_run.proofs.merge.merge_first.Goals as goal

pub returns-in-Ok-clause-part : goal.returns-in-Ok-clause-part
returns-in-Ok-clause-part g c =
    let v : View = view (g.F.Files.content c.args.files.now) (g.F.Files.faults c.args.files.now) (g.F.Files.faults c.read_file.new.files) in
    performs-file (peer_by g.N.Node.view) (words_of c.args.words.now) v (arc_value c.args.graph.now) 0 None c.in-Ok.bytes.items c.join_first.result c.in-Ok.ensures.part
    (subst (λ (bytes : List ℕ). Gives (peer_by g.N.Node.view) (file_joined (arc_value c.args.graph.now) 0 None bytes) c.join_first.result) c.deref.ensures.value c.join_first.ensures.exact)
