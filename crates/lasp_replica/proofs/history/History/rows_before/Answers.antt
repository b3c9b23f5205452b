use Rattle.std.proofs.Common.{◌≡◌, ◌≤◌, ◌-◌, List, ◌++◌, length, get_or, sym, ap, subst, arith, ◌∙◌}
use Rattle.lasp_replica.specs.History.{Growth, AreSound, rows_before}
use Rattle.lasp_replica.specs.Kept.{Kept}
use Rattle.lasp_replica.proofs.GrowthLaws.{rows-most}
use Rattle.lasp_replica.proofs.KeptLaws.{rows-none, rows-at}
use Rattle.lasp_replica.proofs.history.History.rows_before.Goals as goal

pub returns-then-count-eq0-clause-exact : goal.returns-then-count-eq0-clause-exact
returns-then-count-eq0-clause-exact c = sym (rows-none c.args.n c.args.self.now.history.growths (sym c.version_before-count.ensures.exact ∙ c.if-count-eq0.true))

pub returns-clause-exact : goal.returns-clause-exact
returns-clause-exact c =
    let growths : c.self.inside.growths.items ≡ c.args.self.now.history.growths = ap (λ (k : Kept). k.history.growths) c.self.view_is in
    let g = c.index.result.now in
    c.rows.ensures
    ∙ sym (rows-at c.args.n c.version_before-count.result (c.self.inside.first ++ c.self.inside.log.items) c.args.self.now.history.growths g
    (subst (λ (gs : List Growth). AreSound (c.self.inside.first ++ c.self.inside.log.items) gs) growths c.self.invariant.sound) (omega (arith, c.if-count-eq0.false)) c.version_before-count.ensures.exact c.version_before-count.ensures.within
    (subst (λ (gs : List Growth). g ≡ get_or gs (c.version_before-count.result - 1) g) growths c.index.ensures))

pub returns-clause-within : goal.returns-clause-within
returns-clause-within c =
    let exact : c.rows.result ≡ rows_before c.args.self.now.history.growths c.args.n = returns-clause-exact c in
    let most : rows_before c.self.inside.growths.items c.args.n ≤ length (c.self.inside.first ++ c.self.inside.log.items) = rows-most c.args.n 0 0 c.self.inside.growths.items (length (c.self.inside.first ++ c.self.inside.log.items)) c.self.invariant.sound in
    let same : rows_before c.args.self.now.history.growths c.args.n ≤ length c.args.self.now.history.log = subst (λ (k : Kept). rows_before k.history.growths c.args.n ≤ length k.history.log) c.self.view_is most in
    omega (arith, exact, same)
