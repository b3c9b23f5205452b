use Rattle.std.proofs.Common.{◌≡◌, None, arith, sym, ◌∙◌, ap, subst}
use Rattle.std.specs.Arc.{arc_value}
use Rattle.model_graph.specs.Message.{Message}
use Rattle.model_wire.specs.Lawful.{IsMessage}
use Rattle.model_deltas.specs.Delta.{delta_of}
use Rattle.model_deltas.specs.Gossip.{last_told}
use Rattle.lasp_drive.specs.Driver.{seen}
use Rattle.lasp_drive.proofs.NodeLaws.{seen-high}
use Rattle.lasp_delta.specs.Seen.{delta_seen, gossip_of}
use Rattle.lasp_delta.proofs.MessageLaws.{message_in, last-low, read-or, sent-more, sent-now, before-now, leads-now, went-sent}
use Rattle.lasp_delta.proofs.run.deltas.DeltaRun.post.Goals as goal

pub post-requires : goal.post-requires
post-requires g c = record { ready = c.requires.under_way.ready; lawful = (seen-high g.N.Node.view c.args.self.now.driver.nodes.items c.args.p c.requires.node, c.requires.number) }

pub receive-requires : goal.receive-requires
receive-requires g c = omega (arith, sent-more c.args.c c.args.p (seen g.N.Node.view g.N.Node.read c.args.self.now.driver) (seen g.N.Node.view g.N.Node.read c.post.new.self) c.in-Ok.ensures.acts, c.len-number.ensures.exact)

pub changes-requires : goal.changes-requires
changes-requires g c =
    let d = delta_seen g.N.Node.view g.N.Node.read c.args.self.now in
    let e = seen g.N.Node.view g.N.Node.read c.post.new.self in
    let member = seen-high g.N.Node.view c.args.self.now.driver.nodes.items c.args.p c.requires.node in
    let was : c.deref-3.result.now ≡ last_told (gossip_of d) c.args.p = c.deref-3.ensures ∙ c.in_ok-before.ensures in
    let is : c.deref-4.result.now ≡ message_in d.driver c.args.p =
    c.deref-4.ensures ∙ sent-now c.args.c c.args.p c.len-number.result d.driver e (arc_value c.in_ok-sent.sent) c.in-Ok.ensures.acts c.len-number.ensures.exact c.in_ok-sent.ensures.message in
    record {
      earlier = before-now c.args.c c.args.p d c.deref-3.result.now c.deref-4.result.now c.requires.under_way member was is;
      kept = leads-now c.args.c c.args.p c.len-number.result d e c.deref-3.result.now c.deref-4.result.now c.index.result.now c.index-tail.result.now c.requires.under_way member
          (subst IsMessage (sym c.deref-4.ensures) (subst IsMessage c.deref-2.ensures c.recall-2.ensures)) c.in-Ok.ensures.acts c.len-number.ensures.exact was is
          (read-or d.last c.args.p c.index.result.now None (last-low c.args.c c.args.p d c.requires.under_way member) c.index.ensures) c.index-tail.ensures;
    }

pub returns : goal.returns
returns g c =
    let d = delta_seen g.N.Node.view g.N.Node.read c.args.self.now in
    let e = seen g.N.Node.view g.N.Node.read c.post.new.self in
    let before : Message = arc_value c.in_ok-before.before in
    let now : Message = arc_value c.in_ok-sent.sent in
    went-sent c.args.c c.args.p c.len-number.result d e before now c.in_ok-delta.delta c.in_ok-of.field-0 c.push.new.self.items c.requires.under_way (seen-high g.N.Node.view c.args.self.now.driver.nodes.items c.args.p c.requires.node)
    (subst IsMessage c.deref.ensures c.recall.ensures) (subst IsMessage c.deref-2.ensures c.recall-2.ensures) c.in-Ok.ensures.acts c.len-number.ensures.exact c.in_ok-before.ensures
    (sent-now c.args.c c.args.p c.len-number.result d.driver e now c.in-Ok.ensures.acts c.len-number.ensures.exact c.in_ok-sent.ensures.message)
    (c.in_ok-delta.ensures ∙ ap (λ (m : Message). delta_of m c.deref-4.result.now) c.deref-3.ensures ∙ ap (delta_of before) c.deref-4.ensures) c.in_ok-of.ensures c.in_ok-push.ensures.items
