use Rattle.std.proofs.Common.{◌≡◌, ◌-◌, List, ◌++◌, get_or, sym, ap, subst, arith}
use Rattle.lasp_replica.specs.History.{Growth, AreSound}
use Rattle.lasp_replica.specs.Kept.{Kept}
use Rattle.lasp_replica.proofs.KeptLaws.{walk-stop}
use Rattle.lasp_replica.proofs.history.History.version_before.Goals as goal

pub returns-else-entry-n-clause-exact : goal.returns-else-entry-n-clause-exact
returns-else-entry-n-clause-exact c =
    let growths : c.self.inside.growths.items ≡ c.args.self.now.history.growths = ap (λ (k : Kept). k.history.growths) c.self.view_is in
    let g = c.index.result.now in
    sym (walk-stop c.args.n c.loop-count.count (c.self.inside.first ++ c.self.inside.log.items) c.args.self.now.history.growths g
    (subst (λ (gs : List Growth). AreSound (c.self.inside.first ++ c.self.inside.log.items) gs) growths c.self.invariant.sound) c.loop-count-test.true c.loop-count.invariant.0
    (subst (λ (gs : List Growth). g ≡ get_or gs (c.loop-count.count - 1) g) growths c.index.ensures)
    (omega (arith, c.entry.ensures, c.if-entry-n.false)) c.loop-count.invariant.1)
