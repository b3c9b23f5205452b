use Rattle.lasp_node.proofs.CallLaws.{learned-none}
use Rattle.lasp_node.proofs.node.CoreNodeNode.state.Goals as goal

pub returns-clause-learns : goal.returns-clause-learns
returns-clause-learns c = learned-none c.args.self.now.sent c.args.self.now.core c.order_rows.new.self c.recall.ensures.core c.order_rows.ensures
