use Rattle.lasp_node.proofs.NodeLaws.{on-ok}
use Rattle.lasp_node.proofs.CallLaws.{settled-grew, settled-shown}
use Rattle.lasp_node.proofs.node.CoreNodeNode.settle.Goals as goal

pub returns-clause-settled : goal.returns-clause-settled
returns-clause-settled g c = on-ok c.settle-settled.result (settled-shown c.args.self.now.sent c.args.self.now.core c.settle-settled.new.core c.settle-settled.ensures.bound) c.settle-settled.ensures.shown

pub returns-clause-grew : goal.returns-clause-grew
returns-clause-grew g c = settled-grew c.args.self.now.sent c.args.self.now.core c.settle-settled.new.core c.args.self.now.early c.settle-settled.ensures.bound c.recall-2.ensures.core.legal

pub returns-clause-place : goal.returns-clause-place
returns-clause-place g c = c.settle-settled.ensures.bound.frame
