use Rattle.std.proofs.Common.{◌≡◌, Bool, true, false, List, length, sym, ap, subst, ◌∙◌, arith}
use Rattle.lasp_live.specs.Fed.{has_ended}
use Rattle.lasp_live.proofs.TakeLaws.{more-chain}
use Rattle.lasp_live.proofs.takes.take_all.Goals as goal

never-both : (b : Bool) → b ≡ true → b ≡ false → ⊥
never-both b holds fails = let both : true ≡ false = sym holds ∙ fails in cc

-- something came
pub loop-preserved-in-Ok-true : goal.loop-preserved-in-Ok-true
loop-preserved-in-Ok-true g c = record {
  place = c.take_round.ensures.place ∙ c.loop.invariant.place;
  frame = c.take_round.ensures.frame ∙ c.loop.invariant.frame;
  may = c.take_round.ensures.may;
  hears = c.in-Ok-true.ensures.hears;
  more = more-chain (g.F.Feeder.seen c.args.f.now) (g.F.Feeder.seen c.loop.f) (g.F.Feeder.seen c.take_round.new.f) c.loop.invariant.more c.in-Ok-true.ensures.more;
  still = λ all. absurd (never-both c.have_all_ended.result
      (c.have_all_ended.ensures.some (λ q low. subst (λ (l : List Bool). has_ended l q ≡ true) (sym c.deref.ensures.value) ((c.loop.invariant.still all).1 q (omega (arith, low, ap (λ (l : List Bool). length l) c.deref.ensures.value, c.loop.invariant.hears.many)))))
      c.if-have_all_ended.false);
}

-- nothing came
pub loop-preserved : goal.loop-preserved
loop-preserved g c = record {
  place = c.take_round.ensures.place ∙ c.loop.invariant.place;
  frame = c.take_round.ensures.frame ∙ c.loop.invariant.frame;
  may = c.take_round.ensures.may;
  hears = c.in-Ok-false.ensures.hears;
  more = more-chain (g.F.Feeder.seen c.args.f.now) (g.F.Feeder.seen c.loop.f) (g.F.Feeder.seen c.take_round.new.f) c.loop.invariant.more c.in-Ok-false.ensures.more;
  still = λ all. absurd (never-both c.have_all_ended.result
      (c.have_all_ended.ensures.some (λ q low. subst (λ (l : List Bool). has_ended l q ≡ true) (sym c.deref.ensures.value) ((c.loop.invariant.still all).1 q (omega (arith, low, ap (λ (l : List Bool). length l) c.deref.ensures.value, c.loop.invariant.hears.many)))))
      c.if-have_all_ended.false);
}
