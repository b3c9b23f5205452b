use Rattle.std.proofs.Common.{sym, ◌∙◌}
use Rattle.lasp_call.proofs.TellLaws.{ends-empty}
use Rattle.lasp_call.proofs.ending.end_with_text.Goals as goal

pub returns-then-is_empty-clause-ends : goal.returns-then-is_empty-clause-ends
returns-then-is_empty-clause-ends g c =
    ends-empty c.args.text.now (g.O.Sink.written c.args.out.now) (g.E.Sink.written c.args.err.now) (g.O.Sink.faults c.args.out.now) (g.E.Sink.faults c.args.err.now) (sym c.is_empty.ensures ∙ c.if-is_empty.true)
