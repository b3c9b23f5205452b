use Rattle.std.proofs.Common.{List, ℕ, subst}
use Rattle.model_world.specs.World.{Peer, fresh_peer}
use Rattle.model_program.specs.Follows.{View, view}
use Rattle.model_site.specs.Follows.{Gives}
use Rattle.model_site.specs.Site.{state_taken}
use Rattle.model_site.proofs.PlanLaws.{performs-given}
use Rattle.lasp_call.specs.Message.{peer_by}
use Rattle.lasp_call.specs.Words.{words_of}
use Rattle.lasp_site.proofs.state.take_state.Goals as goal

pub returns-in-Ok-clause-part : goal.returns-in-Ok-clause-part
returns-in-Ok-clause-part g c =
    let n = g.N.Node.view c.args.node in
    let v : View = view (g.F.Files.content c.args.files.now) (g.F.Files.faults c.args.files.now) (g.F.Files.faults c.read_file.new.files) in
    performs-given (peer_by g.N.Node.view) (words_of c.args.words.now) v 2 c.in-Ok.bytes.items (state_taken c.args.me c.args.graph.now 2 (fresh_peer c.args.graph.now n.among)) c.take_own.result c.in-Ok.ensures.part
    (subst (λ (r : Peer). Gives (peer_by g.N.Node.view) (state_taken c.args.me c.args.graph.now 2 r c.in-Ok.bytes.items) c.take_own.result) c.requires.fresh
    (subst (λ (bytes : List ℕ). Gives (peer_by g.N.Node.view) (state_taken c.args.me c.args.graph.now 2 n.peer bytes) c.take_own.result) c.deref.ensures.value c.take_own.ensures.exact))
