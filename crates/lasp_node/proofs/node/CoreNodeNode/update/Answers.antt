use Rattle.std.proofs.Common.{Result, refl, sym, subst}
use Rattle.model_states.specs.Content.{Content}
use Rattle.model_journal.specs.Entry.{Update, entry}
use Rattle.model_journal.specs.Journal.{graph, counts, vals}
use Rattle.model_world.specs.World.{updated}
use Rattle.model_core.specs.Core.{entered}
use Rattle.model_core.specs.Known.{BringsNothing}
use Rattle.model_core.specs.Peer.{peer_of}
use Rattle.model_core.proofs.PeerLaws.{graph-updated}
use Rattle.model_core.proofs.SourceLaws.{sources-source}
use Rattle.model_runs.proofs.SourceLaws.{update-source}
use Rattle.lasp_state.specs.State.{op_of}
use Rattle.lasp_drive.specs.Node.{Updates, TakesIn}
use Rattle.lasp_drive.specs.declared.node.NodeStop.{NodeStop}
use Rattle.lasp_node.specs.View.{node_of}
use Rattle.lasp_node.proofs.CallLaws.{takes-ok, takes-none, frame-stays}
use Rattle.lasp_node.proofs.NodeLaws.{IsFit, updated-ok, updated-large}
use Rattle.lasp_node.proofs.node.CoreNodeNode.update.Goals.{in-Ok, in-Err-TooManyRows, in-Err-Memory}
use Rattle.lasp_node.proofs.node.CoreNodeNode.update.Goals as goal

pub update_with-requires-clause-known : goal.update_with-requires-clause-known
update_with-requires-clause-known c is_known =
    let core = c.args.self.now.core in
    let g = graph core.frame core.entries in
    subst (λ (s : Content). BringsNothing s (counts core.frame core.entries) core.frame.replica (op_of c.args.op.now))
    (sources-source g (vals core.frame core.entries) c.args.x c.requires.may.var (update-source core.frame.nodes g c.args.x (op_of c.args.op.now) c.requires.may.may)) (c.requires.known is_known)

pub returns-clause-done : goal.returns-clause-done
returns-clause-done c =
    let core = c.args.self.now.core in
    let fit : IsFit core c.args.x c.args.op.now = record { legal = c.recall.ensures.core.legal; within = c.requires.may.var; may = c.requires.may.may; suits = c.requires.may.suits_it; room = c.requires.may.room } in
    let expected = updated core.frame.replica c.args.x (op_of c.args.op.now) (peer_of core.frame core.entries) in
    let new = peer_of c.update_with.new.self.frame c.update_with.new.self.entries in
    elim c.match-update_with.branch [
      | in-Ok w ↦ subst (λ (r : Result (Unit {0}) NodeStop). Updates expected c.args.x r new) (sym w.result-is) (updated-ok core c.args.x c.args.op.now fit c.update_with.new.self 0 w.in-Ok.ensures.ok w.in-Ok.ensures.answer)
      | in-Err-TooManyRows w ↦ subst (λ (r : Result (Unit {0}) NodeStop). Updates expected c.args.x r new) (sym w.result-is)
          (refl, updated-large core c.args.x c.args.op.now fit w.in-Err-TooManyRows.field-0 w.in-Err-TooManyRows.field-0-is w.in-Err-TooManyRows.ensures.answer)
      | in-Err-Memory w ↦ subst (λ (r : Result (Unit {0}) NodeStop). Updates expected c.args.x r new) (sym w.result-is) tt
    ]

pub returns-clause-takes : goal.returns-clause-takes
returns-clause-takes c =
    let core = c.args.self.now.core in
    let sent = c.args.self.now.sent in
    let new = c.update_with.new.self in
    let a = Update c.args.x (op_of c.args.op.now) in
    elim c.match-update_with.branch [
      | in-Ok w ↦ subst (λ (r : Result (Unit {0}) NodeStop). TakesIn a (node_of core sent) r (node_of new sent)) (sym w.result-is)
          (takes-ok sent core new a c.args.self.now.early refl (graph-updated core.frame core.entries (entry 0 a) c.args.x (op_of c.args.op.now) refl) w.in-Ok.ensures.ok w.recall-in-Ok.ensures.core.legal)
      | in-Err-TooManyRows w ↦ subst (λ (r : Result (Unit {0}) NodeStop). TakesIn a (node_of core sent) r (node_of new sent)) (sym w.result-is) (takes-none sent core new a _ c.recall.ensures.core w.in-Err-TooManyRows.ensures.err)
      | in-Err-Memory w ↦ subst (λ (r : Result (Unit {0}) NodeStop). TakesIn a (node_of core sent) r (node_of new sent)) (sym w.result-is) (takes-none sent core new a _ c.recall.ensures.core w.in-Err-Memory.ensures.err)
    ]

pub returns-clause-place : goal.returns-clause-place
returns-clause-place c = frame-stays c.update_with.result c.args.self.now.core c.update_with.new.self (entered (entry 0 (Update c.args.x (op_of c.args.op.now))) c.args.self.now.core) refl c.update_with.ensures.ok c.update_with.ensures.err
