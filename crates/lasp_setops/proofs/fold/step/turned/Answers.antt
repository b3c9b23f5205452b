use Rattle.std.proofs.Common.{rules, ◌≡◌, ◌+◌, ◌≤◌, ◌^◌, arith}
use Rattle.lasp_setops.proofs.StepLaws.{lift-in, lift-small, undone-in, undone-small, combined-in, combined-small}
use Rattle.lasp_setops.proofs.fold.step.turned.Goals as goal

pub op-requires-clause-right : goal.op-requires-clause-right
op-requires-clause-right g c =
    let is : c.lift_in-number.result ≡ g.G.FoldGroup.taken c.args.g.now c.args.n = search rules in
    let member = lift-in (g.met.G.FoldGroup.laws c.args.g.now c.known.ensures) c.args.n c.lift_in-number.result c.ranges.n is in
    search rules

pub op-requires-clause-small : goal.op-requires-clause-small
op-requires-clause-small g c =
    let is : c.lift_in-number.result ≡ g.G.FoldGroup.taken c.args.g.now c.args.n = search rules in
    let small = lift-small (g.met.G.FoldGroup.laws c.args.g.now c.known.ensures) c.args.n c.lift_in-number.result c.ranges.n is in
    let both : g.G.FoldGroup.size c.args.g.now c.args.total + g.G.FoldGroup.size c.args.g.now c.lift_in-number.result ≤ 2 ^ 100 = omega (arith, small, c.requires.small) in
    search rules

pub returns-then-came-clause-in_group : goal.returns-then-came-clause-in_group
returns-then-came-clause-in_group g c =
    let laws = g.met.G.FoldGroup.laws c.args.g.now c.known.ensures in
    let is : c.lift_in-number.result ≡ g.G.FoldGroup.taken c.args.g.now c.args.n = search rules in
    let sum : c.op.result ≡ g.G.FoldGroup.combined c.args.g.now c.args.total c.lift_in-number.result = search rules in
    let member = combined-in laws c.args.total c.lift_in-number.result c.op.result c.requires.in_group (lift-in laws c.args.n c.lift_in-number.result c.ranges.n is) sum in
    search rules

pub returns-then-came-clause-small : goal.returns-then-came-clause-small
returns-then-came-clause-small g c =
    let laws = g.met.G.FoldGroup.laws c.args.g.now c.known.ensures in
    let is : c.lift_in-number.result ≡ g.G.FoldGroup.taken c.args.g.now c.args.n = search rules in
    let sum : c.op.result ≡ g.G.FoldGroup.combined c.args.g.now c.args.total c.lift_in-number.result = search rules in
    let small = combined-small laws (2 ^ 63) c.args.total c.lift_in-number.result c.op.result (lift-small laws c.args.n c.lift_in-number.result c.ranges.n is) sum in
    search rules

pub inverse-gone-requires-clause-in_group : goal.inverse-gone-requires-clause-in_group
inverse-gone-requires-clause-in_group g c =
    let is : c.lift_in-number.result ≡ g.G.FoldGroup.taken c.args.g.now c.args.n = search rules in
    let member = lift-in (g.met.G.FoldGroup.laws c.args.g.now c.known.ensures) c.args.n c.lift_in-number.result c.ranges.n is in
    search rules

pub inverse-gone-requires-clause-small : goal.inverse-gone-requires-clause-small
inverse-gone-requires-clause-small g c =
    let is : c.lift_in-number.result ≡ g.G.FoldGroup.taken c.args.g.now c.args.n = search rules in
    let small = lift-small (g.met.G.FoldGroup.laws c.args.g.now c.known.ensures) c.args.n c.lift_in-number.result c.ranges.n is in
    let low : g.G.FoldGroup.size c.args.g.now c.lift_in-number.result ≤ 2 ^ 100 = omega (arith, small) in
    search rules

pub op-requires-2-clause-right : goal.op-requires-2-clause-right
op-requires-2-clause-right g c =
    let laws = g.met.G.FoldGroup.laws c.args.g.now c.known.ensures in
    let is : c.lift_in-number.result ≡ g.G.FoldGroup.taken c.args.g.now c.args.n = search rules in
    let gone : c.inverse-gone.result ≡ g.G.FoldGroup.undone c.args.g.now c.lift_in-number.result = search rules in
    let member = undone-in laws c.lift_in-number.result c.inverse-gone.result (lift-in laws c.args.n c.lift_in-number.result c.ranges.n is) gone in
    search rules

pub op-requires-2-clause-small : goal.op-requires-2-clause-small
op-requires-2-clause-small g c =
    let laws = g.met.G.FoldGroup.laws c.args.g.now c.known.ensures in
    let is : c.lift_in-number.result ≡ g.G.FoldGroup.taken c.args.g.now c.args.n = search rules in
    let gone : c.inverse-gone.result ≡ g.G.FoldGroup.undone c.args.g.now c.lift_in-number.result = search rules in
    let small = undone-small laws (2 ^ 63) c.lift_in-number.result c.inverse-gone.result (lift-small laws c.args.n c.lift_in-number.result c.ranges.n is) gone in
    let both : g.G.FoldGroup.size c.args.g.now c.args.total + g.G.FoldGroup.size c.args.g.now c.inverse-gone.result ≤ 2 ^ 100 = omega (arith, small, c.requires.small) in
    search rules

pub returns-clause-in_group : goal.returns-clause-in_group
returns-clause-in_group g c =
    let laws = g.met.G.FoldGroup.laws c.args.g.now c.known.ensures in
    let is : c.lift_in-number.result ≡ g.G.FoldGroup.taken c.args.g.now c.args.n = search rules in
    let gone : c.inverse-gone.result ≡ g.G.FoldGroup.undone c.args.g.now c.lift_in-number.result = search rules in
    let sum : c.op-2.result ≡ g.G.FoldGroup.combined c.args.g.now c.args.total c.inverse-gone.result = search rules in
    let member = combined-in laws c.args.total c.inverse-gone.result c.op-2.result c.requires.in_group (undone-in laws c.lift_in-number.result c.inverse-gone.result (lift-in laws c.args.n c.lift_in-number.result c.ranges.n is) gone) sum in
    search rules

pub returns-clause-small : goal.returns-clause-small
returns-clause-small g c =
    let laws = g.met.G.FoldGroup.laws c.args.g.now c.known.ensures in
    let is : c.lift_in-number.result ≡ g.G.FoldGroup.taken c.args.g.now c.args.n = search rules in
    let gone : c.inverse-gone.result ≡ g.G.FoldGroup.undone c.args.g.now c.lift_in-number.result = search rules in
    let sum : c.op-2.result ≡ g.G.FoldGroup.combined c.args.g.now c.args.total c.inverse-gone.result = search rules in
    let small = combined-small laws (2 ^ 63) c.args.total c.inverse-gone.result c.op-2.result (undone-small laws (2 ^ 63) c.lift_in-number.result c.inverse-gone.result (lift-small laws c.args.n c.lift_in-number.result c.ranges.n is) gone) sum in
    search rules
