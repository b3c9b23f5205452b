use Rattle.std.proofs.Common.{ℕ}
use Rattle.std.proofs.lemmas.Result.{err_from_is_err_and}
use Rattle.model_wire.specs.Reader.{list_at}
use Rattle.model_wire.specs.Message.{limited_at, nothing_more, numbers_at}
use Rattle.lasp_wire.proofs.Loop.{goes_on, ends, is_done, many}
use Rattle.lasp_wire.proofs.read.sequence.numbers_in.Goals as goal

pub returns-in_err-number-clause-exact : goal.returns-in_err-number-clause-exact
unfolding numbers_at
returns-in_err-number-clause-exact c =
    let read = limited_at c.args.most in
    let p = err_from_is_err_and c.from_residual.result c.from_residual.ensures.1 in
    rw (p.1, p.2) (ends _ ℕ read nothing_more c.in_err-number.field-0.0 c.loop.numbers.items c.args.count c.loop.counter tt c.loop.rest.now (list_at read nothing_more c.args.count tt c.args.bytes.now)
    c.loop-test.true c.in_err-number.ensures.exact c.loop.invariant)

pub loop-preserved : goal.loop-preserved
loop-preserved c =
    let read = limited_at c.args.most in
    rw c.in_ok-push.ensures.items (goes_on _ ℕ read nothing_more c.loop.numbers.items c.args.count c.loop.counter tt c.loop.rest.now c.in_ok-number.number c.in_ok-number.after.now (list_at read nothing_more c.args.count tt c.args.bytes.now)
    c.loop-test.true c.in_ok-number.ensures.exact c.loop.invariant)

pub returns-clause-exact : goal.returns-clause-exact
unfolding numbers_at
returns-clause-exact c =
    let read = limited_at c.args.most in
    is_done _ ℕ read nothing_more c.loop.numbers.items c.args.count c.loop.counter tt c.loop.rest.now (list_at read nothing_more c.args.count tt c.args.bytes.now) c.loop-test.false c.loop.invariant

pub returns-clause-long : goal.returns-clause-long
returns-clause-long c =
    let read = limited_at c.args.most in
    many _ ℕ read nothing_more c.args.count tt c.args.bytes.now (c.loop.numbers.items, c.loop.rest.now)
    (is_done _ ℕ read nothing_more c.loop.numbers.items c.args.count c.loop.counter tt c.loop.rest.now (list_at read nothing_more c.args.count tt c.args.bytes.now) c.loop-test.false c.loop.invariant)
