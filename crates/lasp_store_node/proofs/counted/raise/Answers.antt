use Rattle.std.proofs.Common.{refl, ◌<◌, ◌∙◌, ℕ, List, length, sym, ap, subst, arith, slice_set}
use Rattle.std.proofs.lemmas.List.{length-set}
use Rattle.model_states.specs.Counts.{AreCountsAtMost}
use Rattle.lasp_store_node.proofs.CountedLaws.{raise-bound}
use Rattle.lasp_store_node.proofs.counted.raise.Goals as goal

pub at-requires : goal.at-requires
at-requires c = omega (arith, c.loop-i-test.true, c.loop-i.invariant.long, c.len-i-end.ensures, c.requires)

pub set-requires : goal.set-requires
set-requires c = omega (arith, c.loop-i-test.true, c.loop-i.invariant.long, c.len-i-end.ensures, c.requires)

pub loop-i-preserved : goal.loop-i-preserved
loop-i-preserved c =
    let low : c.loop-i.i < length c.loop-i.known = omega (arith, c.loop-i-test.true, c.loop-i.invariant.long, c.len-i-end.ensures) in
    record {
      long = ap (λ (ns : List ℕ). length ns) c.set.ensures ∙ length-set c.loop-i.known c.loop-i.i c.max-count.result ∙ c.loop-i.invariant.long;
      bound = λ most old new.
          subst (λ (ns : List ℕ). AreCountsAtMost ns most) (sym (c.set.ensures ∙ ap (λ (n : ℕ). slice_set c.loop-i.known c.loop-i.i n) c.max-count.ensures))
          (raise-bound c.loop-i.i c.loop-i.known c.args.counts.now most c.at.result c.at-in-loop-i.result low c.at.ensures c.at-in-loop-i.ensures (c.loop-i.invariant.bound most old new) new);
    }

pub loop-i-init : goal.loop-i-init
loop-i-init c = record { long = refl; bound = λ most old new. old }

pub returns : goal.returns
returns c = c.loop-i.invariant.bound
