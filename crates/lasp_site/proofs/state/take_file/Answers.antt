use Rattle.std.proofs.Common.{List, ℕ, subst}
use Rattle.model_program.specs.Follows.{View, view}
use Rattle.model_site.specs.Follows.{Gives}
use Rattle.model_site.specs.Site.{file_taken}
use Rattle.model_site.proofs.PlanLaws.{performs-given}
use Rattle.lasp_call.specs.Message.{peer_by}
use Rattle.lasp_call.specs.Words.{words_of}
use Rattle.lasp_site.proofs.state.take_file.Goals as goal

pub returns-in-Ok-clause-part : goal.returns-in-Ok-clause-part
returns-in-Ok-clause-part g c =
    let n = g.N.Node.view c.args.node in
    let v : View = view (g.F.Files.content c.args.files.now) (g.F.Files.faults c.args.files.now) (g.F.Files.faults c.read_file.new.files) in
    performs-given (peer_by g.N.Node.view) (words_of c.args.words.now) v c.args.file c.in-Ok.bytes.items (file_taken c.args.me c.args.graph.now c.args.file n.peer) c.take_bytes.result c.in-Ok.ensures.part
    (subst (λ (bytes : List ℕ). Gives (peer_by g.N.Node.view) (file_taken c.args.me c.args.graph.now c.args.file n.peer bytes) c.take_bytes.result) c.deref.ensures.value c.take_bytes.ensures.exact)
