use Rattle.lasp_node.proofs.CallLaws.{learned-looked}
use Rattle.lasp_node.proofs.node.CoreNodeNode.reached.Goals as goal

pub returns-clause-looked : goal.returns-clause-looked
returns-clause-looked c = learned-looked c.args.self.now.sent c.args.self.now.core c.look.new.self c.recall.ensures.core c.look.ensures.looked
