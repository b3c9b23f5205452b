use Rattle.std.proofs.Common.{ap, refl}
use Rattle.std.specs.Arc.{arc_value}
use Rattle.model_journal.specs.Entry.{Frame, Extend, entry}
use Rattle.model_journal.specs.Journal.{graph}
use Rattle.lasp_graph.specs.Decl.{decl_of}
use Rattle.lasp_core.specs.Core.{declared}
use Rattle.lasp_node.proofs.NodeLaws.{on-ok, last-decl, extended-same, extended-peer}
use Rattle.lasp_node.proofs.CallLaws.{declared-calls, declared-grew, learned-none, on-err, frame-stays}
use Rattle.lasp_node.proofs.node.CoreNodeNode.extend.Goals as goal

pub extend-extended-requires-clause-next : goal.extend-extended-requires-clause-next
extend-extended-requires-clause-next c =
    let core = c.args.self.now.core in
    (last-decl (graph core.frame core.entries) (arc_value c.args.graph.now) c.deref.result.now c.deref-2.result.now c.requires.0 (decl_of c.at.result.now) c.len.result
    c.requires.1 c.deref.ensures c.deref-2.ensures c.len.ensures.graph c.len.ensures.count c.at.ensures.decl).next

pub returns-clause-ok : goal.returns-clause-ok
returns-clause-ok c d is =
    let core = c.args.self.now.core in
    let new = c.extend-extended.new.self in
    let e = decl_of c.at.result.now in
    let last = last-decl (graph core.frame core.entries) (arc_value c.args.graph.now) c.deref.result.now c.deref-2.result.now d e c.len.result
    is c.deref.ensures c.deref-2.ensures c.len.ensures.graph c.len.ensures.count c.at.ensures.decl in
    on-ok c.extend-extended.result
    (λ done. let same = extended-same core new 0 e d _ refl last.same done in
    record {
      node = record { graph = same.graph_is; replica = ap (λ (X : Frame). X.replica) same.frame; nodes = ap (λ (X : Frame). X.nodes) same.frame };
      peer = extended-peer core new 0 e d c.recall.ensures.core.legal last.same done;
      calls = declared-calls core new e d last.same done;
      grew = declared-grew c.args.self.now.sent core new (entry 0 (Extend e)) c.args.self.now.early done c.recall-2.ensures.core;
    })
    c.extend-extended.ensures.ok

pub returns-clause-err : goal.returns-clause-err
returns-clause-err c = on-err c.extend-extended.result (learned-none c.args.self.now.sent c.args.self.now.core c.extend-extended.new.self c.recall.ensures.core) c.extend-extended.ensures.err

pub returns-clause-place : goal.returns-clause-place
returns-clause-place c = frame-stays c.extend-extended.result c.args.self.now.core c.extend-extended.new.self (declared (entry 0 (Extend (decl_of c.at.result.now))) c.args.self.now.core) refl c.extend-extended.ensures.ok c.extend-extended.ensures.err
