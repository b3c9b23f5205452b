use Rattle.lasp_site.proofs.NodeLaws.{node-message}
use Rattle.lasp_site.proofs.update.state_of.Goals as goal

pub message-requires : goal.message-requires
message-requires g c = node-message c.args.me c.args.graph.now (g.N.Node.view c.args.node.now) c.requires.graph c.requires.node
