use Rattle.std.proofs.Common.{rules, subst, slice_set}
use Rattle.lasp_value.specs.Value.{val_of}
use Rattle.model_dots.specs.Dots.{Dots, IsAtMost}
use Rattle.model_dots.proofs.DotLaws.{dots-idempotent}
use Rattle.lasp_dots.proofs.SetLaws.{removed-state, removed-rises, stays}
use Rattle.lasp_dots.proofs.set.DotSet.remove.Goals as goal

pub invariant_of-self-2 : goal.invariant_of-self-2
invariant_of-self-2 c =
    let s : Dots = record { rows = c.self.inside.live; counts = c.self.inside.known.items } in
    removed-state s c.args.replica c.from.result c.in_ok-number.number (val_of c.args.value.now) c.take_out.new.dots c.self.invariant (search rules) (search rules) (search rules) c.from.ensures c.in_ok-take_out.ensures.ok

pub returns-in_err-number-clause-grows : goal.returns-in_err-number-clause-grows
returns-in_err-number-clause-grows c = dots-idempotent c.args.self.now c.holds.ensures

pub returns-in_err-take_out-clause-grows : goal.returns-in_err-take_out-clause-grows
returns-in_err-take_out-clause-grows c = stays c.args.self.now c.self.inside.live c.take_out.new.dots c.self.inside.known.items c.holds.ensures c.self.view_is c.in_err-take_out.ensures.err

pub returns-clause-grows : goal.returns-clause-grows
returns-clause-grows c =
    let s : Dots = record { rows = c.self.inside.live; counts = c.self.inside.known.items } in
    subst (λ (z : Dots). IsAtMost z (record { rows = c.take_out.new.dots; counts = slice_set c.self.inside.known.items c.from.result c.in_ok-number.number })) c.self.view_is
    (removed-rises s c.args.replica c.from.result c.in_ok-number.number (val_of c.args.value.now) c.take_out.new.dots c.self.invariant (search rules) (search rules) (search rules) c.from.ensures c.in_ok-take_out.ensures.ok)
