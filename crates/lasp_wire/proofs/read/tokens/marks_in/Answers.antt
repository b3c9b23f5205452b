use Rattle.std.proofs.Common.{◌≡◌, ◌++◌, ◌∷◌, ◌∙◌, [], map, None, sym}
use Rattle.std.proofs.lemmas.Result.{err_from_is_err_and}
use Rattle.std.proofs.lemmas.List.{map_push, length-map}
use Rattle.model_values.specs.Token.{Tok}
use Rattle.std.specs.Prelude.{Bool}
use Rattle.model_wire.specs.Reader.{list_at}
use Rattle.model_wire.specs.Value.{latest}
use Rattle.model_wire.specs.Message.{token_after_at, tokens_at}
use Rattle.lasp_wire.specs.Read.{last_of, mark_of}
use Rattle.lasp_wire.proofs.Loop.{goes_on_last, ends, is_done, many}
use Rattle.lasp_wire.proofs.read.tokens.marks_in.Goals as goal

pub returns-in_err-mark-clause-exact : goal.returns-in_err-mark-clause-exact
unfolding tokens_at
returns-in_err-mark-clause-exact c =
    let read = token_after_at c.args.nodes in
    let p = err_from_is_err_and c.from_residual.result c.from_residual.ensures.1 in
    rw (p.1, p.2) (ends _ (Tok × Bool) read latest c.in_err-mark.field-0.0 (map mark_of c.loop.marks.items) c.args.count c.loop.counter (last_of (map mark_of c.loop.marks.items)) c.loop.rest.now (list_at read latest c.args.count None c.args.bytes.now)
    c.loop-test.true (rw (← c.deref.ensures.value) c.in_err-mark.ensures) c.loop.invariant)

pub loop-preserved : goal.loop-preserved
loop-preserved c =
    let read = token_after_at c.args.nodes in
    let e : map mark_of c.push.new.self.items ≡ map mark_of c.loop.marks.items ++ mark_of c.in_ok-mark.mark ∷ [] = rw c.in_ok-push.ensures.items (map_push _ c.loop.marks.items c.in_ok-mark.mark) in
    rw e (goes_on_last (Tok × Bool) read (map mark_of c.loop.marks.items) c.args.count c.loop.counter c.loop.rest.now (mark_of c.in_ok-mark.mark) c.in_ok-mark.after.now (list_at read latest c.args.count None c.args.bytes.now)
    c.loop-test.true (rw (← c.deref.ensures.value) c.in_ok-mark.ensures) c.loop.invariant)

pub returns-clause-exact : goal.returns-clause-exact
unfolding tokens_at
returns-clause-exact c =
    let read = token_after_at c.args.nodes in
    is_done _ (Tok × Bool) read latest (map mark_of c.loop.marks.items) c.args.count c.loop.counter (last_of (map mark_of c.loop.marks.items)) c.loop.rest.now (list_at read latest c.args.count None c.args.bytes.now) c.loop-test.false c.loop.invariant

pub returns-clause-long : goal.returns-clause-long
returns-clause-long c =
    let read = token_after_at c.args.nodes in
    sym (length-map c.loop.marks.items mark_of) ∙ many _ (Tok × Bool) read latest c.args.count None c.args.bytes.now (map mark_of c.loop.marks.items, c.loop.rest.now)
    (is_done _ (Tok × Bool) read latest (map mark_of c.loop.marks.items) c.args.count c.loop.counter (last_of (map mark_of c.loop.marks.items)) c.loop.rest.now (list_at read latest c.args.count None c.args.bytes.now) c.loop-test.false c.loop.invariant)
