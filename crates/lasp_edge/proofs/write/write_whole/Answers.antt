use Rattle.std.proofs.Common.{◌+◌, arith, length-drop}
use Rattle.std.proofs.lemmas.List.{take_rest}
use Rattle.lasp_edge.proofs.LoopLaws.{grows_by_kept, grows_by_taken, appends_more}
use Rattle.lasp_edge.proofs.write.write_whole.Goals as goal

pub returns-in-Err-clause-part : goal.returns-in-Err-clause-part
returns-in-Err-clause-part g c =
    grows_by_kept _ (g.W.Write.contents c.loop-done.w) _ c.args.bytes.now c.loop-done.done c.loop-done.invariant.1 c.in-Err.ensures.bytes

pub returns-in-Ok-eq0-clause-part : goal.returns-in-Ok-eq0-clause-part
returns-in-Ok-eq0-clause-part g c =
    let i = c.loop-done.done in
    let n = c.in-Ok-eq0.field-0 in
    grows_by_taken _ _ c.args.bytes.now (i + n)
    (appends_more _ (g.W.Write.contents c.loop-done.w) _ c.args.bytes.now i n c.loop-done.invariant.1 c.in-Ok-eq0.ensures.bytes)

pub loop-done-preserved : goal.loop-done-preserved
loop-done-preserved g c = (
  omega (arith, rw (take_rest, length-drop) at c.in-Ok.ensures.bound),
  appends_more _ (g.W.Write.contents c.loop-done.w) _ c.args.bytes.now c.loop-done.done c.in-Ok.n c.loop-done.invariant.1 c.in-Ok.ensures.bytes,
  c.loop-done.invariant.2,
)
