use Rattle.std.proofs.Common.{◌≡◌, ◌<◌, ◌∙◌, ℕ, List, length, ap, arith, slice_set}
use Rattle.lasp_replica.proofs.RaiseLaws.{raised, length-raised, raised-next, raised-all}
use Rattle.lasp_replica.proofs.replica.deliver.raise.Goals as goal

pub at-requires : goal.at-requires
at-requires c =
    let long : length c.loop-i.counts ≡ length c.args.counts.now = ap (λ (ns : List ℕ). length ns) c.loop-i.invariant ∙ length-raised c.loop-i.i c.args.counts.now c.args.others.now in
    omega (arith, c.loop-i-test.true, long, c.len-i-end.ensures)

pub set-requires : goal.set-requires
set-requires c =
    let long : length c.loop-i.counts ≡ length c.args.counts.now = ap (λ (ns : List ℕ). length ns) c.loop-i.invariant ∙ length-raised c.loop-i.i c.args.counts.now c.args.others.now in
    omega (arith, c.loop-i-test.true, long, c.len-i-end.ensures)

pub loop-i-preserved : goal.loop-i-preserved
loop-i-preserved c =
    let old = c.args.counts.now in
    let long : length c.loop-i.counts ≡ length old = ap (λ (ns : List ℕ). length ns) c.loop-i.invariant ∙ length-raised c.loop-i.i old c.args.others.now in
    let within : c.loop-i.i < length c.loop-i.counts = omega (arith, c.loop-i-test.true, long, c.len-i-end.ensures) in
    c.set.ensures ∙ ap (λ (n : ℕ). slice_set c.loop-i.counts c.loop-i.i n) c.max-count.ensures
    ∙ raised-next c.loop-i.i old c.args.others.now c.loop-i.counts c.at.result c.at-in-loop-i.result within c.loop-i.invariant c.at.ensures c.at-in-loop-i.ensures

pub returns : goal.returns
returns c =
    let all : c.loop-i.i ≡ length c.args.counts.now = omega (arith, c.loop-i-test.false, c.loop-i.auto.i-end, c.len-i-end.ensures) in
    c.loop-i.invariant ∙ ap (λ (n : ℕ). raised n c.args.counts.now c.args.others.now) all ∙ raised-all c.args.counts.now c.args.others.now c.requires
