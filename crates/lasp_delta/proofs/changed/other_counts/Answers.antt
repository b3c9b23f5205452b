use Rattle.std.proofs.Common.{◌≡◌, ◌+◌, ◌<◌, length, sym, subst, ◌∙◌, arith}
use Rattle.std.proofs.lemmas.Bool.Decides.{nat_tests}
use Rattle.model_states.specs.Counts.{count_at}
use Rattle.lasp_delta.proofs.ChangedLaws.{AreChangedTo, changed-same, changed-other, changed-end}
use Rattle.lasp_delta.proofs.changed.other_counts.Goals.{then-count_of, else-count_of}
use Rattle.lasp_delta.proofs.changed.other_counts.Goals as goal

pub loop-node-preserved : goal.loop-node-preserved
loop-node-preserved c =
    let low : c.loop-node.node < length c.args.after.now = omega (arith, c.loop-node-test.true, c.nodes-node-end.ensures) in
    elim c.if-count_of.branch [
      | then-count_of w ↦
          let same : count_at c.args.before.now c.loop-node.node ≡ count_at c.args.after.now c.loop-node.node = omega (arith, w.if-count_of.true, c.count_of.ensures.exact, c.count_of-in-loop-node.ensures.exact) in
          subst (AreChangedTo c.args.before.now c.args.after.now (c.loop-node.node + 1)) (sym (w.counts-is ∙ w.set_count.ensures))
          (changed-same c.args.before.now c.args.after.now c.loop-node.counts c.loop-node.node c.requires low c.loop-node.invariant same)
      | else-count_of w ↦
          subst (AreChangedTo c.args.before.now c.args.after.now (c.loop-node.node + 1)) (sym w.counts-is)
          (changed-other c.args.before.now c.args.after.now c.loop-node.counts c.loop-node.node c.requires low c.loop-node.invariant
          (λ same. grind (arith, nat_tests, same, w.if-count_of.false, c.count_of.ensures.exact, c.count_of-in-loop-node.ensures.exact)))
    ]

pub returns : goal.returns
returns c = changed-end c.args.before.now c.args.after.now c.loop-node.counts c.loop-node.node (omega (arith, c.loop-node-test.false, c.nodes-node-end.ensures)) c.loop-node.invariant
