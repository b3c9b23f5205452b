use Rattle.std.proofs.Common.{◌+◌, ◌<◌, length, subst, sym, ap, ◌∙◌, arith}
use Rattle.std.specs.Arc.{arc_value}
use Rattle.model_graph.specs.Graph.{is_source}
use Rattle.model_graph.specs.Message.{Sent, Message}
use Rattle.model_wire.specs.Lawful.{IsMessage}
use Rattle.lasp_graph.specs.Decl.{decl_of}
use Rattle.lasp_graph.specs.States.{contents_of}
use Rattle.lasp_wire.specs.Sent.{with_source, sent}
use Rattle.lasp_gossip.specs.Exchange.{IsBegun}
use Rattle.lasp_gossip.proofs.ComposeLaws.{begun-source, begun-derived, lawful-source, source-is}
use Rattle.lasp_gossip.proofs.compose.message_of.Goals as goal
use Rattle.lasp_gossip.proofs.compose.message_of.Goals.{then-is_source+in_ok-push, else-is_source}

pub push-requires : goal.push-requires
push-requires c =
    let low : c.loop-x.x < length c.args.g.now = omega (arith, c.loop-x-test.true, c.len-x-end.ensures.count) in
    let is = ap (sent c.at-decl.result.now.name) c.deref.ensures
    ∙ source-is c.args.g.now c.args.sources.now c.args.counts.now (length c.args.counts.now) c.loop-x.x (decl_of c.at-decl.result.now) (arc_value c.at.result.now) c.requires.kinds (sym c.is_source.ensures ∙ c.if-is_source.true) c.at-decl.ensures.decl c.at.ensures in
    subst (λ (t : Sent). IsMessage (with_source c.loop-x.m t)) (sym is)
    (lawful-source c.args.g.now c.args.sources.now c.args.counts.now c.loop-x.x c.loop-x.m c.requires.lawful c.loop-x.invariant low c.requires.long (ap is_source c.at-decl.ensures.kind ∙ sym c.is_source.ensures ∙ c.if-is_source.true))

pub loop-x-preserved : goal.loop-x-preserved
loop-x-preserved c =
    let low : c.loop-x.x < length c.args.g.now = omega (arith, c.loop-x-test.true, c.len-x-end.ensures.count) in
    elim c.if-is_source.branch [
      | then-is_source+in_ok-push w ↦ (
          let is = ap (sent c.at-decl.result.now.name) w.deref.ensures
          ∙ source-is c.args.g.now c.args.sources.now c.args.counts.now (length c.args.counts.now) c.loop-x.x (decl_of c.at-decl.result.now) (arc_value w.at.result.now) c.requires.kinds (sym c.is_source.ensures ∙ w.if-is_source.true) c.at-decl.ensures.decl w.at.ensures in
          subst (λ (m : Message). IsBegun c.args.g.now (contents_of c.args.sources.now) c.args.counts.now (c.loop-x.x + 1) m) (sym (w.m-is ∙ w.in_ok-push.ensures.ok ∙ ap (with_source c.loop-x.m) is))
          (begun-source c.args.g.now c.args.sources.now c.args.counts.now c.loop-x.x c.loop-x.m c.loop-x.invariant low c.requires.long (ap is_source c.at-decl.ensures.kind ∙ sym c.is_source.ensures ∙ w.if-is_source.true)))
      | else-is_source w ↦ (
          subst (λ (m : Message). IsBegun c.args.g.now (contents_of c.args.sources.now) c.args.counts.now (c.loop-x.x + 1) m) (sym w.m-is)
          (begun-derived c.args.g.now c.args.sources.now c.args.counts.now c.loop-x.x c.loop-x.m c.loop-x.invariant low c.requires.long (ap is_source c.at-decl.ensures.kind ∙ sym c.is_source.ensures ∙ w.if-is_source.false)))
    ]
