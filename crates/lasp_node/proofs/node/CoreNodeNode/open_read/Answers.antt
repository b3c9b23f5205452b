use Rattle.std.proofs.Common.{refl}
use Rattle.lasp_core.specs.Core.{opened, opened_read}
use Rattle.lasp_state.specs.Threshold.{threshold_of}
use Rattle.lasp_node.proofs.NodeLaws.{on-ok}
use Rattle.lasp_node.proofs.CallLaws.{learned-none, learned-opened, on-err, frame-stays}
use Rattle.lasp_node.proofs.node.CoreNodeNode.open_read.Goals as goal

pub returns-clause-ok : goal.returns-clause-ok
returns-clause-ok c = on-ok c.open_read.result (learned-opened c.args.self.now.sent c.args.self.now.core c.open_read.new.self c.args.x (threshold_of c.args.threshold) c.recall.ensures.core) c.open_read.ensures.ok

pub returns-clause-err : goal.returns-clause-err
returns-clause-err c = on-err c.open_read.result (learned-none c.args.self.now.sent c.args.self.now.core c.open_read.new.self c.recall.ensures.core) c.open_read.ensures.err

pub returns-clause-place : goal.returns-clause-place
returns-clause-place c = frame-stays c.open_read.result c.args.self.now.core c.open_read.new.self (opened (opened_read c.args.self.now.core c.args.x (threshold_of c.args.threshold)) c.args.self.now.core) refl c.open_read.ensures.ok c.open_read.ensures.err
