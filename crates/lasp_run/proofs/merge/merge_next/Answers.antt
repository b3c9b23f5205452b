use Rattle.std.proofs.Common.{List, ℕ, ◌+◌, Some, subst}
use Rattle.model_program.specs.Plan.{reading}
use Rattle.model_program.specs.Follows.{View, view, Gives, Passes}
use Rattle.model_program.specs.Merge.{file_joined}
use Rattle.lasp_call.specs.Message.{peer_by}
use Rattle.lasp_call.specs.Words.{words_of}
use Rattle.lasp_run.proofs.MergeLaws.{performs-file}
use Rattle.lasp_run.proofs.merge.merge_next.Goals as goal

pub returns-in-Ok-clause-part : goal.returns-in-Ok-clause-part
returns-in-Ok-clause-part g c =
    let v : View = view (g.F.Files.content c.args.files.now) (g.F.Files.faults c.args.files.now) (g.F.Files.faults c.read_file.new.files) in
    performs-file (peer_by g.N.Node.view) (words_of c.args.words.now) v c.args.graph.now c.args.number (Some (g.N.Node.view c.args.node).peer) c.in-Ok.bytes.items c.join_next.result
    (subst (λ (n : ℕ). Passes (words_of c.args.words.now) v (reading (n + 2)) c.in-Ok.bytes.items) c.from.ensures c.in-Ok.ensures.part)
    (subst (λ (bytes : List ℕ). Gives (peer_by g.N.Node.view) (file_joined c.args.graph.now c.args.number (Some (g.N.Node.view c.args.node).peer) bytes) c.join_next.result) c.deref.ensures.value c.join_next.ensures.exact)
