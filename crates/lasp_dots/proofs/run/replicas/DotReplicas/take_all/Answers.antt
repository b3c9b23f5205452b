use Rattle.std.proofs.Common.{ℕ, length, sym, ap, ◌∙◌, arith}
use Rattle.model_world.specs.World.{takes}
use Rattle.model_dots.specs.DotWorld.{DotWorld, dot_each}
use Rattle.lasp_dots.proofs.WorldLaws.{all-push}
use Rattle.lasp_dots.proofs.run.replicas.DotReplicas.take_all.Goals as goal

pub loop-p-preserved : goal.loop-p-preserved
loop-p-preserved c =
    let nodes = length c.args.self.now.nodes in
    let taken = c.in_ok-take_others.ensures in
    record {
      within = omega (arith, c.loop-p-test.true, c.len-p-end.ensures);
      size = taken.size ∙ c.loop-p.invariant.size;
      sent = taken.sent ∙ c.loop-p.invariant.sent;
      done = taken.done ∙ ap (λ (n : ℕ). dot_each c.loop-p.self (takes n c.args.i c.loop-p.p)) c.loop-p.invariant.size
          ∙ ap (λ (v : DotWorld). dot_each v (takes nodes c.args.i c.loop-p.p)) c.loop-p.invariant.done ∙ sym (all-push c.args.self.now nodes c.args.i c.loop-p.p);
    }
