use Rattle.std.proofs.Common.{◌<◌, length, subst, sym}
use Rattle.model_dots.specs.DotWorld.{DotWorld}
use Rattle.lasp_dots.proofs.WorldLaws.{sent-wide, taken-wide}
use Rattle.lasp_dots.proofs.run.replicas.DotReplicas.take.Goals as goal

pub invariant_of-self : goal.invariant_of-self
invariant_of-self c =
    let w : DotWorld = record { nodes = c.self.inside.nodes.items; sent = c.self.inside.sent.items } in
    let node : c.args.p < length w.nodes = subst (λ (v : DotWorld). c.args.p < length v.nodes) (sym c.self.view_is) c.requires.node in
    let message : c.args.i < length w.sent = subst (λ (v : DotWorld). c.args.i < length v.sent) (sym c.self.view_is) c.requires.message in
    taken-wide c.take_at.result w c.take_at.new.nodes.items c.args.p c.index.result.now c.take_at.ensures.ok c.take_at.ensures.err c.self.invariant node (sent-wide w c.args.i c.index.result.now c.self.invariant message c.index.ensures)
