use Rattle.std.proofs.Common.{◌∷◌, [], List, Result, refl, sym, subst}
use Rattle.std.specs.Arc.{arc_value}
use Rattle.std.specs.Prelude.{OnOk}
use Rattle.model_journal.specs.Entry.{Deliver, Entry, entry}
use Rattle.model_world.specs.World.{delivered}
use Rattle.model_core.specs.Peer.{peer_of}
use Rattle.lasp_store.specs.Turn.{HadTurn, frame_of, graph_seen}
use Rattle.lasp_store.specs.Settled.{KnowsOwn}
use Rattle.lasp_drive.specs.Node.{Delivers, TakesIn}
use Rattle.lasp_drive.specs.declared.node.NodeStop.{NodeStop}
use Rattle.lasp_store_node.specs.View.{node_of, node_seen, AreCounted}
use Rattle.lasp_store_node.proofs.CallLaws.{HasCalled, has-called, takes-ok, takes-none, deliver-ok, deliver-large, deliver-refused}
use Rattle.lasp_store_node.proofs.CountedLaws.{tried-own, counted-delivered}
use Rattle.lasp_store_node.proofs.node.StoreNode.take.Goals.{in-Ok, in-Err-TooManyRows, in-Err-Memory}
use Rattle.lasp_store_node.proofs.node.StoreNode.take.Goals as goal

pub unreachable-requires : goal.unreachable-requires
unreachable-requires g c =
    let new = c.deliver_part.new.f in
    let last = c.self.inside.last in
    let called : (more : List Entry) → KnowsOwn new → HadTurn more c.self.inside.feed new → HasCalled c.self.inside.store.now more last c.args.self.now new = λ more knows t.
    has-called _ more c.self.inside.feed last c.args.self.now new c.self.view_is c.self.invariant.early c.self.invariant.feed (record { own = c.known.ensures.own; allowed = c.known.ensures.allowed }) knows t in
    let old = c.args.self.now.feed in
    deliver-refused _ old new (arc_value c.args.m.now) c.in-Err-WrongGraph.field-0 (called _ (record { own = c.known-in-Err-WrongGraph.ensures.own; allowed = c.known-in-Err-WrongGraph.ensures.allowed }) c.in-Err-WrongGraph.ensures.err).turned c.requires.sent c.in-Err-WrongGraph.field-0-is c.in-Err-WrongGraph.ensures.answer

pub returns-clause-done : goal.returns-clause-done
returns-clause-done g c =
    let new = c.deliver_part.new.f in
    let last = c.self.inside.last in
    let called : (more : List Entry) → KnowsOwn new → HadTurn more c.self.inside.feed new → HasCalled c.self.inside.store.now more last c.args.self.now new = λ more knows t.
    has-called _ more c.self.inside.feed last c.args.self.now new c.self.view_is c.self.invariant.early c.self.invariant.feed (record { own = c.known.ensures.own; allowed = c.known.ensures.allowed }) knows t in
    let old = c.args.self.now.feed in
    let m = arc_value c.args.m.now in
    let expected = delivered (graph_seen old) m (peer_of (frame_of old) old.seen) in
    elim c.match-deliver_part.branch [
      | in-Ok w ↦ subst (λ (r : Result (Unit {0}) NodeStop). Delivers expected r (peer_of (frame_of new) new.seen)) (sym w.result-is)
          (deliver-ok _ old new c.args.i m (called _ (record { own = w.known-in-Ok.ensures.own; allowed = w.known-in-Ok.ensures.allowed }) w.in-Ok.ensures.ok).turned w.in-Ok.ensures.answer)
      | in-Err-TooManyRows w ↦ subst (λ (r : Result (Unit {0}) NodeStop). Delivers expected r (peer_of (frame_of new) new.seen)) (sym w.result-is)
          (deliver-large _ old new m w.in-Err-TooManyRows.field-0 w.in-Err-TooManyRows.x (called _ (record { own = w.known-in-Err-TooManyRows.ensures.own; allowed = w.known-in-Err-TooManyRows.ensures.allowed }) w.in-Err-TooManyRows.ensures.err).turned w.in-Err-TooManyRows.field-0-is w.in-Err-TooManyRows.ensures.answer)
      | in-Err-Memory w ↦ subst (λ (r : Result (Unit {0}) NodeStop). Delivers expected r (peer_of (frame_of new) new.seen)) (sym w.result-is) tt
    ]

pub returns-clause-takes : goal.returns-clause-takes
returns-clause-takes g c =
    let new = c.deliver_part.new.f in
    let last = c.self.inside.last in
    let called : (more : List Entry) → KnowsOwn new → HadTurn more c.self.inside.feed new → HasCalled c.self.inside.store.now more last c.args.self.now new = λ more knows t.
    has-called _ more c.self.inside.feed last c.args.self.now new c.self.view_is c.self.invariant.early c.self.invariant.feed (record { own = c.known.ensures.own; allowed = c.known.ensures.allowed }) knows t in
    let old = c.args.self.now in
    let a = Deliver c.args.i (arc_value c.args.m.now) in
    elim c.match-deliver_part.branch [
      | in-Ok w ↦ subst (λ (r : Result (Unit {0}) NodeStop). TakesIn a (node_seen old) r (node_of new last)) (sym w.result-is) (takes-ok _ last old new a refl refl (called _ (record { own = w.known-in-Ok.ensures.own; allowed = w.known-in-Ok.ensures.allowed }) w.in-Ok.ensures.ok))
      | in-Err-TooManyRows w ↦ subst (λ (r : Result (Unit {0}) NodeStop). TakesIn a (node_seen old) r (node_of new last)) (sym w.result-is) (takes-none _ last old new a _ (called _ (record { own = w.known-in-Err-TooManyRows.ensures.own; allowed = w.known-in-Err-TooManyRows.ensures.allowed }) w.in-Err-TooManyRows.ensures.err))
      | in-Err-Memory w ↦ subst (λ (r : Result (Unit {0}) NodeStop). TakesIn a (node_seen old) r (node_of new last)) (sym w.result-is) (takes-none _ last old new a _ (called _ (record { own = w.known-in-Err-Memory.ensures.own; allowed = w.known-in-Err-Memory.ensures.allowed }) w.in-Err-Memory.ensures.err))
    ]

pub invariant_of-self : goal.invariant_of-self
invariant_of-self g c =
    tried-own c.self.inside.store.now c.self.inside.last c.self.inside.window c.self.inside.known (entry 0 (Deliver c.args.i (arc_value c.args.m.now)) ∷ []) c.self.inside.feed c.deliver_part.new.f c.deliver_part.result c.deliver_part.ensures.ok c.deliver_part.ensures.err c.self.invariant

pub returns-clause-counted : goal.returns-clause-counted
returns-clause-counted g c =
    let new = c.deliver_part.new.f in
    let m = arc_value c.args.m.now in
    elim c.match-deliver_part.branch [
      | in-Ok w ↦ subst (λ (r : Result (Unit {0}) NodeStop). OnOk r (AreCounted m.counts new)) (sym w.result-is) (counted-delivered c.self.inside.feed new c.args.i m w.in-Ok.ensures.ok)
      | in-Err-TooManyRows w ↦ subst (λ (r : Result (Unit {0}) NodeStop). OnOk r (AreCounted m.counts new)) (sym w.result-is) tt
      | in-Err-Memory w ↦ subst (λ (r : Result (Unit {0}) NodeStop). OnOk r (AreCounted m.counts new)) (sym w.result-is) tt
    ]
