use Rattle.std.proofs.Common.{ap}
use Rattle.model_core.specs.Core.{Core}
use Rattle.lasp_core.specs.Reads.{read_of}
use Rattle.lasp_node.proofs.CallLaws.{learned-closed}
use Rattle.lasp_node.proofs.node.CoreNodeNode.close_read.Goals as goal

pub returns-clause-closed : goal.returns-clause-closed
returns-clause-closed c = learned-closed c.args.self.now.sent c.args.self.now.core c.close_read.new.self (read_of c.args.r.now).number c.recall.ensures.core c.close_read.ensures

pub returns-clause-place : goal.returns-clause-place
returns-clause-place c = ap (λ (core : Core). core.frame) c.close_read.ensures
