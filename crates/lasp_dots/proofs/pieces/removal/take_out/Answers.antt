use Rattle.lasp_log.specs.Log.{joined}
use Rattle.lasp_dots.proofs.PieceLaws.{none-whole, none-counted, taken-whole}
use Rattle.lasp_dots.proofs.pieces.removal.take_out.Goals as goal

pub returns-then-count-eq0-clause-ok : goal.returns-then-count-eq0-clause-ok
returns-then-count-eq0-clause-ok g c =
    none-whole (g.E.Edge.in_front c.args.from.now) (g.F.Edge.in_front c.args.to.now) c.args.pieces.now.items c.deref.result.now c.span_of-span.result.count c.deref.ensures.value c.if-count-eq0.true c.span_of-span.ensures.count

pub returns-then-count-eq0-clause-count : goal.returns-then-count-eq0-clause-count
returns-then-count-eq0-clause-count g c =
    none-counted (g.E.Edge.in_front c.args.from.now) (g.F.Edge.in_front c.args.to.now) c.args.pieces.now.items c.deref.result.now c.span_of-span.result.count c.deref.ensures.value c.if-count-eq0.true c.span_of-span.ensures.count

pub returns-clause-ok : goal.returns-clause-ok
returns-clause-ok g c =
    taken-whole (g.E.Edge.in_front c.args.from.now) (g.F.Edge.in_front c.args.to.now) c.args.pieces.now.items c.deref.result.now c.deref-2.result.now c.span_of-span.result.begin.piece c.span_of-span.result.end.piece
    c.span_of-span.result.begin.at c.span_of-span.result.end.at c.in_ok-kept.kept.items (joined c.write_over.new.pieces.items) c.deref.ensures.value c.deref-2.ensures.value c.span_of-span.ensures.begin c.span_of-span.ensures.end
    c.in_ok-kept.ensures c.in_ok-write_over.ensures.ok
