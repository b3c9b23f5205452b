use Rattle.std.proofs.Common.{◌≡◌, suc, ◌-◌, sym, ap, ◌∙◌, arith, Some}
use Rattle.model_values.specs.Row.{Row}
use Rattle.lasp_value.specs.Value.{val_of}
use Rattle.lasp_logset.proofs.NearLaws.{near-next}
use Rattle.lasp_logset.proofs.of_value.Near.next.Goals as goal

pub any_before-before-requires-clause-row : goal.any_before-before-requires-clause-row
any_before-before-requires-clause-row c = c.self.invariant.row (c.self.inside.behind - 1) (omega (arith, c.if-self-eq0.false))

pub returns-clause-some : goal.returns-clause-some
returns-clause-some c =
    let here : c.self.inside.behind ≡ suc (c.self.inside.behind - 1) = omega (arith, c.if-self-eq0.false) in
    sym c.self.view_is
    ∙ near-next (val_of c.self.inside.value.now) c.self.inside.rows.now.entries c.self.inside.behind (c.self.inside.behind - 1) c.any_before-before.result c.of.result here
    (sym c.in-Some.ensures.entry ∙ ap (λ (r : Row). Some r) (sym c.of.ensures)) (c.self.invariant.row (c.self.inside.behind - 1) here) c.any_before-before.ensures.falls c.any_before-before.ensures.passed

pub unreachable-requires : goal.unreachable-requires
unreachable-requires c =
    let here : c.self.inside.behind ≡ suc (c.self.inside.behind - 1) = omega (arith, c.if-self-eq0.false) in
    let row = c.self.invariant.row (c.self.inside.behind - 1) here in
    let clash = c.in_default.ensures.entry ∙ row.2 in
    cc
