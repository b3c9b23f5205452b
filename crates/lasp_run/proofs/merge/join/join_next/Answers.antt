use Rattle.std.specs.Prelude.{Some}
use Rattle.std.specs.Arc.{arc_value}
use Rattle.std.specs.declared.sync.Arc.{Arc}
use Rattle.std.specs.declared.alloc.Global.{Global}
use Rattle.model_graph.specs.Message.{Message}
use Rattle.lasp_call.specs.Message.{peer_by}
use Rattle.lasp_run.proofs.JoinLaws.{file-given, file-refused}
use Rattle.lasp_run.proofs.merge.join.join_next.Goals as goal

pub returns-in-Ok-clause-exact : goal.returns-in-Ok-clause-exact
returns-in-Ok-clause-exact g c =
    file-given (peer_by g.N.Node.view) c.args.graph.now c.place_of.result c.args.number (Some (g.N.Node.view c.args.node).peer) c.args.bytes.now (arc_value c.in-Ok.message) c.join.result c.place_of.ensures c.in-Ok.ensures.exact c.join.ensures.exact

pub returns-in-Err-clause-exact : goal.returns-in-Err-clause-exact
returns-in-Err-clause-exact g c = file-refused (peer_by g.N.Node.view) (λ (m : Arc Message Global). arc_value m) c.args.graph.now c.place_of.result c.args.number (Some (g.N.Node.view c.args.node).peer) c.args.bytes.now c.in-Err.failure c.place_of.ensures c.in-Err.ensures.exact
