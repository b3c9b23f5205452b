use Rattle.std.proofs.Common.{rules, take, drop, take-append-drop}
use Rattle.lasp_edge.proofs.mem_sink.MemSinkSink.put.Goals as goal

pub returns-then-is_some-clause-part : goal.returns-then-is_some-clause-part
returns-then-is_some-clause-part c =
    (take c.match-after.taken c.args.bytes.now, drop c.match-after.taken c.args.bytes.now, take-append-drop _ _, search rules)
