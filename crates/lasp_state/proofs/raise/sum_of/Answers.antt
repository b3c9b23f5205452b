use Rattle.std.proofs.Common.{arith}
use Rattle.std.proofs.lemmas.List.Sums.{sum_by-drop_more}
use Rattle.lasp_state.specs.CountLaws.{sum-small}
use Rattle.lasp_state.proofs.raise.sum_of.Goals as goal

pub overflow_add-total : goal.overflow_add-total
overflow_add-total c =
    omega (
      arith,
      c.loop-count.invariant,
      c.requires.few,
      sum-small c.args.counts.now c.requires.small,
      sum_by-drop_more (λ x. x) c.args.counts.now c.loop-count.count-index 0 (omega (arith, c.loop-count-test.true)),
    )
