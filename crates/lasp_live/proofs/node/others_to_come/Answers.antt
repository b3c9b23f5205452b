use Rattle.std.proofs.Common.{◌≡◌, Bool, ◌==◌, List, length, refl, sym, ap, subst, arith}
use Rattle.std.proofs.lemmas.List.{length-append}
use Rattle.lasp_live.specs.Fed.{has_ended}
use Rattle.lasp_live.proofs.LogLaws.{come-next}
use Rattle.lasp_live.proofs.node.others_to_come.Goals as goal

pub loop-q-preserved : goal.loop-q-preserved
loop-q-preserved c = record {
  size = omega (arith, c.loop-q.invariant.size, ap length c.in_ok-push.ensures.items, length-append {A = Bool});
  items = λ q low. subst (λ (l : List Bool). has_ended l q ≡ (q == c.args.me)) (sym c.in_ok-push.ensures.items) (come-next c.loop-q.ended.items c.loop-q.q c.args.me (c.loop-q.q == c.args.me) c.loop-q.invariant.size c.loop-q.invariant.items refl q low);
}
