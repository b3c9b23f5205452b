use Rattle.std.proofs.Common.{length, sym, ap, ◌∙◌, arith}
use Rattle.model_graph.proofs.PlaceLaws.{length-push}
use Rattle.model_world.specs.World.{Post}
use Rattle.model_dots.specs.DotWorld.{DotWorld, dots_at, dot_act}
use Rattle.lasp_dots.proofs.WorldLaws.{posts-push}
use Rattle.lasp_dots.proofs.run.replicas.DotReplicas.post_all.Goals as goal

pub loop-p-preserved : goal.loop-p-preserved
loop-p-preserved c =
    let w = c.loop-p.self in
    let posted = c.in_ok-post.ensures.ok in
    record {
      within = omega (arith, c.loop-p-test.true, c.len-p-end.ensures);
      size = ap (λ (v : DotWorld). length v.nodes) posted ∙ c.loop-p.invariant.size;
      sent = omega (arith, ap (λ (v : DotWorld). length v.sent) posted, length-push w.sent (dots_at w.nodes c.loop-p.p), c.loop-p.invariant.sent);
      done = posted ∙ ap (λ (v : DotWorld). dot_act v (Post c.loop-p.p)) c.loop-p.invariant.done ∙ sym (posts-push c.args.self.now c.loop-p.p);
    }
