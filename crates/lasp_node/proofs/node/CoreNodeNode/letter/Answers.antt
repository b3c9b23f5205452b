use Rattle.std.proofs.Common.{refl}
use Rattle.lasp_node.proofs.CallLaws.{learned-none, sends-all, if-err}
use Rattle.lasp_node.proofs.node.CoreNodeNode.letter.Goals as goal

pub returns-clause-sends : goal.returns-clause-sends
returns-clause-sends c = sends-all c.args.self.now.sent (record { number = c.args.i; entries = c.journal_len.result }) c.args.self.now.core c.args.i c.recall.ensures.core refl c.journal_len.ensures.length

pub returns-in_err-whole-clause-err : goal.returns-in_err-whole-clause-err
returns-in_err-whole-clause-err c = if-err c.from_residual.result (learned-none c.args.self.now.sent c.args.self.now.core c.args.self.now.core c.recall.ensures.core refl)

pub returns-in_err-tail-clause-err : goal.returns-in_err-tail-clause-err
returns-in_err-tail-clause-err c = if-err c.from_residual-in_err-tail.result (learned-none c.args.self.now.sent c.args.self.now.core c.args.self.now.core c.recall.ensures.core refl)
