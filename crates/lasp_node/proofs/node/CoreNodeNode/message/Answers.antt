use Rattle.std.proofs.Common.{refl}
use Rattle.lasp_node.proofs.CallLaws.{learned-none}
use Rattle.lasp_node.proofs.node.CoreNodeNode.message.Goals as goal

pub returns-clause-learns : goal.returns-clause-learns
returns-clause-learns c = learned-none c.args.self.now.sent c.args.self.now.core c.args.self.now.core c.recall.ensures.core refl
