use Rattle.std.proofs.Common.{◌++◌, take, arith, length-append, length-take}
use Rattle.std.proofs.KnownBytes.{Consumes-trans}
use Rattle.std.proofs.lemmas.Result.{err_from_is_err_and}
use Rattle.lasp_edge.proofs.read.read_up_to.Goals as goal

pub returns-in_err-extend_from_slice-in-Ok-clause-taken :
    goal.returns-in_err-extend_from_slice-in-Ok-clause-taken
returns-in_err-extend_from_slice-in-Ok-clause-taken g c =
    let old = c.loop-piece.bytes.items in
    let more = take c.in-Ok.n c.read.new.buf in
    let p = err_from_is_err_and c.from_residual.result c.from_residual.ensures.1 in
    (old ++ more, Consumes-trans _ (g.R.Read.remaining c.loop-piece.r) _ old more c.loop-piece.invariant.1 c.in-Ok.ensures.bytes.0, rw (p.1, p.2, length-append, ← c.in-Ok.ensures.bound.1) (omega (arith, rw length-take at c.read.auto.buf, c.loop-piece.bytes.ok.0, c.in-Ok.ensures.bound.0)))
