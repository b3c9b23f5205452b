use Rattle.std.proofs.Common.{[], ◌∷◌, List, sym, subst}
use Rattle.std.specs.Arc.{arc_value}
use Rattle.model_readings.specs.Lawful.{IsNext}
use Rattle.model_journal.specs.Entry.{Entry, Extend, entry}
use Rattle.lasp_graph.specs.Decl.{decl_of}
use Rattle.lasp_store.specs.Turn.{HadTurn, graph_seen}
use Rattle.lasp_store_node.specs.View.{Seen}
use Rattle.lasp_store.proofs.TurnLaws.{on-ok, on-err}
use Rattle.lasp_node.proofs.NodeLaws.{last-decl}
use Rattle.lasp_store_node.proofs.CallLaws.{HasCalled, has-called, extends-ok, none-learned}
use Rattle.lasp_store_node.proofs.CountedLaws.{tried-own}
use Rattle.lasp_store_node.proofs.node.StoreNodeNode.extend.Goals as goal

pub extend-extended-requires-clause-next : goal.extend-extended-requires-clause-next
extend-extended-requires-clause-next g c =
    subst (λ (n : Seen). IsNext (graph_seen n.feed) (decl_of c.at.result.now)) (sym c.self.view_is)
    (last-decl (graph_seen c.args.self.now.feed) (arc_value c.args.graph.now) c.deref.result.now c.deref-2.result.now c.requires.0 (decl_of c.at.result.now) c.len.result
    c.requires.1 c.deref.ensures c.deref-2.ensures c.len.ensures.graph c.len.ensures.count c.at.ensures.decl).next

pub returns-clause-ok : goal.returns-clause-ok
returns-clause-ok g c d is =
    let new = c.extend-extended.new.f in
    let last = c.self.inside.last in
    let called : (more : List Entry) → HadTurn more c.self.inside.feed new → HasCalled c.self.inside.store.now more last c.args.self.now new = λ more t.
    has-called _ more c.self.inside.feed last c.args.self.now new c.self.view_is c.self.invariant.early c.self.invariant.feed
    (record { own = c.known.ensures.own; allowed = c.known.ensures.allowed }) (record { own = c.known-2.ensures.own; allowed = c.known-2.ensures.allowed }) t in
    let declared = last-decl (graph_seen c.args.self.now.feed) (arc_value c.args.graph.now) c.deref.result.now c.deref-2.result.now d (decl_of c.at.result.now) c.len.result
    is c.deref.ensures c.deref-2.ensures c.len.ensures.graph c.len.ensures.count c.at.ensures.decl in
    on-ok c.extend-extended.result (λ t. extends-ok _ last c.args.self.now new (decl_of c.at.result.now) d declared.same (called _ t)) c.extend-extended.ensures.ok

pub returns-clause-err : goal.returns-clause-err
returns-clause-err g c =
    let new = c.extend-extended.new.f in
    let last = c.self.inside.last in
    let called : (more : List Entry) → HadTurn more c.self.inside.feed new → HasCalled c.self.inside.store.now more last c.args.self.now new = λ more t.
    has-called _ more c.self.inside.feed last c.args.self.now new c.self.view_is c.self.invariant.early c.self.invariant.feed
    (record { own = c.known.ensures.own; allowed = c.known.ensures.allowed }) (record { own = c.known-2.ensures.own; allowed = c.known-2.ensures.allowed }) t in
    on-err c.extend-extended.result (λ t. none-learned _ last c.args.self.now new (called _ t)) c.extend-extended.ensures.err

pub invariant_of-self : goal.invariant_of-self
invariant_of-self g c =
    tried-own c.self.inside.store.now c.self.inside.last c.self.inside.window c.self.inside.known (entry 0 (Extend (decl_of c.at.result.now)) ∷ []) c.self.inside.feed c.extend-extended.new.f c.extend-extended.result c.extend-extended.ensures.ok c.extend-extended.ensures.err c.self.invariant
