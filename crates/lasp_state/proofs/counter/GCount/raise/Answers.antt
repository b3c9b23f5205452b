use Rattle.std.proofs.Common.{rules, ◌≡◌, ◌∙◌, ap, sym, subst, length}
use Rattle.lasp_state.specs.Counts.{AreCounts, HaveSameNodes, larger}
use Rattle.lasp_state.specs.CountLaws.{counts-written, counts-larger, length-larger}
use Rattle.lasp_state.proofs.counter.GCount.raise.Goals as goal

pub invariant_of-self : goal.invariant_of-self
invariant_of-self c =
    let old = c.self.inside.counts.items in
    let others = c.other.inside.counts.items in
    let same : HaveSameNodes old others = search rules in
    let joined : c.raise.new.counts ≡ larger old others = search rules in
    counts-written c.self.inside.counts.len old c.raise.new.counts (search rules) (ap length joined ∙ length-larger old others same)
    (subst AreCounts (sym joined) (counts-larger old others c.self.invariant c.other.invariant same))
