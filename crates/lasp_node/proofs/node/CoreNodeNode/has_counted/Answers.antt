use Rattle.std.proofs.Common.{ℕ, List, length, sym, ap, subst, ◌∙◌}
use Rattle.model_states.specs.Counts.{AreCountsAtMost}
use Rattle.lasp_node.proofs.node.CoreNodeNode.has_counted.Goals as goal

pub is_at_most-requires : goal.is_at_most-requires
is_at_most-requires c = c.requires ∙ ap (λ (ns : List ℕ). length ns) (sym c.counts.ensures)

pub returns : goal.returns
returns c = λ counted. subst (AreCountsAtMost c.args.counts.now) c.counts.ensures (c.is_at_most.ensures.0 counted)
