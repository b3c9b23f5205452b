use Rattle.std.proofs.Common.{◌≡◌, ◌++◌, ◌∷◌, [], map, None}
use Rattle.std.proofs.lemmas.Result.{err_from_is_err_and}
use Rattle.std.proofs.lemmas.List.{map_push}
use Rattle.model_values.specs.Value.{Val}
use Rattle.model_wire.specs.Reader.{list_at}
use Rattle.model_wire.specs.Value.{latest}
use Rattle.model_wire.specs.Message.{value_after_at}
use Rattle.lasp_value.specs.Value.{val_of}
use Rattle.lasp_wire.specs.Read.{last_of}
use Rattle.lasp_wire.proofs.Loop.{goes_on_last, ends, is_done}
use Rattle.lasp_wire.proofs.read.elements.elements_of.Goals as goal

pub returns-in_err-value : goal.returns-in_err-value
returns-in_err-value c =
    let p = err_from_is_err_and c.from_residual.result c.from_residual.ensures.1 in
    rw (p.1, p.2) (ends _ Val value_after_at latest c.in_err-value.field-0.0 (map val_of c.loop.values.items) c.args.count c.loop.counter (last_of (map val_of c.loop.values.items)) c.loop.rest.now (list_at value_after_at latest c.args.count None c.args.bytes.now)
    c.loop-test.true (rw (← c.deref.ensures.value, ← c.last_value.ensures) c.in_err-value.ensures) c.loop.invariant)

pub loop-preserved : goal.loop-preserved
loop-preserved c =
    let e : map val_of c.push.new.self.items ≡ map val_of c.loop.values.items ++ val_of c.in_ok-value.value ∷ [] = rw c.in_ok-push.ensures.items (map_push _ c.loop.values.items c.in_ok-value.value) in
    rw e (goes_on_last Val value_after_at (map val_of c.loop.values.items) c.args.count c.loop.counter c.loop.rest.now (val_of c.in_ok-value.value) c.in_ok-value.after.now (list_at value_after_at latest c.args.count None c.args.bytes.now)
    c.loop-test.true (rw (← c.deref.ensures.value, ← c.last_value.ensures) c.in_ok-value.ensures) c.loop.invariant)

pub returns : goal.returns
returns c =
    is_done _ Val value_after_at latest (map val_of c.loop.values.items) c.args.count c.loop.counter (last_of (map val_of c.loop.values.items)) c.loop.rest.now (list_at value_after_at latest c.args.count None c.args.bytes.now) c.loop-test.false c.loop.invariant
