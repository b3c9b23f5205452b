use Rattle.std.proofs.Common.{◌≡◌, true, false, refl, sym, subst, ◌∙◌}
use Rattle.model_dots.specs.Dots.{IsAtMost}
use Rattle.model_dots.proofs.DotLaws.{dots-idempotent, dots-commutative, dots-left}
use Rattle.lasp_dots.proofs.set.DotSet.join_in.Goals as goal

pub returns-then-le-clause-ok : goal.returns-then-le-clause-ok
returns-then-le-clause-ok c =
    sym (c.le.ensures.0 c.if-le.true) ∙ dots-commutative c.args.other.now c.args.self.now c.holds-2.ensures c.holds.ensures (sym c.requires)

pub returns-clause-grew : goal.returns-clause-grew
returns-clause-grew c = (
  λ _ e.
      let low : IsAtMost c.args.other.now c.args.self.now = dots-commutative c.args.other.now c.args.self.now c.holds-2.ensures c.holds.ensures (sym c.requires) ∙ sym c.in_ok-join_all.ensures.ok ∙ e in
      let wrong : true ≡ false = sym (c.le.ensures.1 low) ∙ c.if-le.false in
      absurd cc,
  λ _. refl,
)

pub returns-then-le-clause-grows : goal.returns-then-le-clause-grows
returns-then-le-clause-grows c = dots-idempotent c.args.self.now c.holds.ensures

pub returns-in_err-join_all-clause-grows : goal.returns-in_err-join_all-clause-grows
returns-in_err-join_all-clause-grows c = subst (IsAtMost c.args.self.now) (sym c.in_err-join_all.ensures.err) (dots-idempotent c.args.self.now c.holds.ensures)

pub returns-clause-grows : goal.returns-clause-grows
returns-clause-grows c =
    subst (IsAtMost c.args.self.now) (sym c.in_ok-join_all.ensures.ok) (dots-left c.args.self.now c.args.other.now c.holds.ensures c.holds-2.ensures c.requires)
