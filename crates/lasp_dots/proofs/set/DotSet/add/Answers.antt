use Rattle.std.proofs.Common.{rules, subst, slice_set}
use Rattle.lasp_value.specs.Value.{val_of}
use Rattle.model_dots.specs.Dots.{Dots, IsAtMost}
use Rattle.model_dots.proofs.DotLaws.{dots-idempotent}
use Rattle.lasp_dots.proofs.SetLaws.{added-state, added-rises, stays}
use Rattle.lasp_dots.proofs.set.DotSet.add.Goals as goal

pub invariant_of-self-2 : goal.invariant_of-self-2
invariant_of-self-2 c =
    let s : Dots = record { rows = c.self.inside.live; counts = c.self.inside.known.items } in
    added-state s c.args.replica c.from.result c.in_ok-k.k (val_of c.args.value.now) c.in_ok-dot.dot c.put_in.new.dots c.self.invariant (search rules) (search rules) (search rules) c.from.ensures (search rules) c.in_ok-put_in.ensures.ok

pub returns-in_err-k-clause-grows : goal.returns-in_err-k-clause-grows
returns-in_err-k-clause-grows c = dots-idempotent c.args.self.now c.holds.ensures

pub returns-in_err-try_clone-clause-grows : goal.returns-in_err-try_clone-clause-grows
returns-in_err-try_clone-clause-grows c = dots-idempotent c.args.self.now c.holds.ensures

pub returns-in_err-dot-clause-grows : goal.returns-in_err-dot-clause-grows
returns-in_err-dot-clause-grows c = dots-idempotent c.args.self.now c.holds.ensures

pub returns-in_err-put_in-clause-grows : goal.returns-in_err-put_in-clause-grows
returns-in_err-put_in-clause-grows c = stays c.args.self.now c.self.inside.live c.put_in.new.dots c.self.inside.known.items c.holds.ensures c.self.view_is c.in_err-put_in.ensures.err

pub returns-clause-grows : goal.returns-clause-grows
returns-clause-grows c =
    let s : Dots = record { rows = c.self.inside.live; counts = c.self.inside.known.items } in
    subst (λ (z : Dots). IsAtMost z (record { rows = c.put_in.new.dots; counts = slice_set c.self.inside.known.items c.from.result c.in_ok-k.k })) c.self.view_is
    (added-rises s c.args.replica c.from.result c.in_ok-k.k (val_of c.args.value.now) c.in_ok-dot.dot c.put_in.new.dots c.self.invariant (search rules) (search rules) (search rules) c.from.ensures (search rules) c.in_ok-put_in.ensures.ok)
