use Rattle.std.proofs.Common.{Result, refl, sym, subst}
use Rattle.std.specs.Arc.{arc_value}
use Rattle.model_journal.specs.Entry.{Deliver, entry}
use Rattle.model_journal.specs.Journal.{graph, vals}
use Rattle.model_world.specs.World.{delivered}
use Rattle.model_core.specs.Core.{entered}
use Rattle.model_core.specs.Peer.{peer_of}
use Rattle.model_core.proofs.PeerLaws.{graph-delivered}
use Rattle.lasp_drive.specs.Node.{Delivers, TakesIn}
use Rattle.lasp_drive.specs.declared.node.NodeStop.{NodeStop}
use Rattle.lasp_node.specs.View.{node_of}
use Rattle.lasp_node.proofs.CallLaws.{takes-ok, takes-none, frame-stays}
use Rattle.lasp_node.proofs.NodeLaws.{brings-core, not-wrong, delivered-ok, delivered-large}
use Rattle.lasp_node.proofs.node.CoreNodeNode.deliver.Goals.{in-Ok, in-Err-TooManyRows, in-Err-Memory}
use Rattle.lasp_node.proofs.node.CoreNodeNode.deliver.Goals as goal

pub deliver_part-requires : goal.deliver_part-requires
deliver_part-requires c =
    let core = c.args.self.now.core in
    brings-core core.frame core.entries (arc_value c.args.m.now) c.args.part.now c.requires.part

pub unreachable-requires : goal.unreachable-requires
unreachable-requires c =
    let core = c.args.self.now.core in
    not-wrong core.frame.nodes (graph core.frame core.entries) (vals core.frame core.entries) (arc_value c.args.m.now) c.in-Err-WrongGraph.field-0 c.in-Err-WrongGraph.field-0-is c.requires.sent c.in-Err-WrongGraph.ensures.answer

pub returns-clause-done : goal.returns-clause-done
returns-clause-done c =
    let core = c.args.self.now.core in
    let m = arc_value c.args.m.now in
    let expected = delivered (graph core.frame core.entries) m (peer_of core.frame core.entries) in
    let new = peer_of c.deliver_part.new.self.frame c.deliver_part.new.self.entries in
    elim c.match-deliver_part.branch [
      | in-Ok w ↦ subst (λ (r : Result (Unit {0}) NodeStop). Delivers expected r new) (sym w.result-is) (delivered-ok core c.deliver_part.new.self 0 c.args.i m c.recall.ensures.core.legal w.in-Ok.ensures.ok w.in-Ok.ensures.answer.1)
      | in-Err-TooManyRows w ↦ subst (λ (r : Result (Unit {0}) NodeStop). Delivers expected r new) (sym w.result-is)
          (delivered-large core m w.in-Err-TooManyRows.field-0 w.in-Err-TooManyRows.x c.recall.ensures.core.legal w.in-Err-TooManyRows.field-0-is w.in-Err-TooManyRows.ensures.answer)
      | in-Err-Memory w ↦ subst (λ (r : Result (Unit {0}) NodeStop). Delivers expected r new) (sym w.result-is) tt
    ]

pub returns-clause-takes : goal.returns-clause-takes
returns-clause-takes c =
    let core = c.args.self.now.core in
    let sent = c.args.self.now.sent in
    let new = c.deliver_part.new.self in
    let a = Deliver c.args.i (arc_value c.args.m.now) in
    elim c.match-deliver_part.branch [
      | in-Ok w ↦ subst (λ (r : Result (Unit {0}) NodeStop). TakesIn a (node_of core sent) r (node_of new sent)) (sym w.result-is)
          (takes-ok sent core new a c.args.self.now.early refl (graph-delivered core.frame core.entries (entry 0 a) c.args.i (arc_value c.args.m.now) refl) w.in-Ok.ensures.ok w.recall-in-Ok.ensures.core.legal)
      | in-Err-TooManyRows w ↦ subst (λ (r : Result (Unit {0}) NodeStop). TakesIn a (node_of core sent) r (node_of new sent)) (sym w.result-is) (takes-none sent core new a _ c.recall.ensures.core w.in-Err-TooManyRows.ensures.err)
      | in-Err-Memory w ↦ subst (λ (r : Result (Unit {0}) NodeStop). TakesIn a (node_of core sent) r (node_of new sent)) (sym w.result-is) (takes-none sent core new a _ c.recall.ensures.core w.in-Err-Memory.ensures.err)
    ]

pub returns-clause-place : goal.returns-clause-place
returns-clause-place c = frame-stays c.deliver_part.result c.args.self.now.core c.deliver_part.new.self (entered (entry 0 (Deliver c.args.i (arc_value c.args.m.now))) c.args.self.now.core) refl c.deliver_part.ensures.ok c.deliver_part.ensures.err
