use Rattle.std.proofs.Common.{◌+◌, length, sym, ap, ◌∙◌, arith}
use Rattle.model_graph.proofs.PlaceLaws.{set-length}
use Rattle.model_dots.specs.DotWorld.{DotWorld, dot_each}
use Rattle.lasp_dots.proofs.WorldLaws.{taken, takes-push, taken-other, taken-own, other-node, own-node}
use Rattle.lasp_dots.proofs.run.replicas.DotReplicas.take_others.Goals as goal
use Rattle.lasp_dots.proofs.run.replicas.DotReplicas.take_others.Goals.{then-q-p+in_ok-take, else-q-p}

pub overflow_add-i : goal.overflow_add-i
overflow_add-i c = omega (arith, c.loop-q-test.true, c.len-q-end.ensures, c.requires.messages, c.messages.ensures, c.messages.type_inv)

pub loop-q-preserved : goal.loop-q-preserved
loop-q-preserved c =
    let self = c.args.self.now in
    let i = c.args.i in
    let p = c.args.p in
    let q = c.loop-q.q in
    elim c.if-q-p.branch [
      | then-q-p+in_ok-take w ↦ record {
        within = omega (arith, c.loop-q-test.true, c.len-q-end.ensures);
        size = ap (λ (v : DotWorld). length v.nodes) (w.self-is ∙ w.in_ok-take.ensures.ok) ∙ set-length c.loop-q.self.nodes p _ ∙ c.loop-q.invariant.size;
        sent = ap (λ (v : DotWorld). length v.sent) (w.self-is ∙ w.in_ok-take.ensures.ok) ∙ c.loop-q.invariant.sent;
        done = w.self-is ∙ w.in_ok-take.ensures.ok ∙ sym (taken-other c.loop-q.self i p q (other-node q p w.if-q-p.true)) ∙ ap (λ (v : DotWorld). dot_each v (taken i p q)) c.loop-q.invariant.done ∙ sym (takes-push self i p q);
      }
      | else-q-p w ↦ record {
        within = omega (arith, c.loop-q-test.true, c.len-q-end.ensures);
        size = ap (λ (v : DotWorld). length v.nodes) w.self-is ∙ c.loop-q.invariant.size;
        sent = ap (λ (v : DotWorld). length v.sent) w.self-is ∙ c.loop-q.invariant.sent;
        done = w.self-is ∙ sym (taken-own c.loop-q.self i p q (own-node q p w.if-q-p.false)) ∙ ap (λ (v : DotWorld). dot_each v (taken i p q)) c.loop-q.invariant.done ∙ sym (takes-push self i p q);
      }
    ]
