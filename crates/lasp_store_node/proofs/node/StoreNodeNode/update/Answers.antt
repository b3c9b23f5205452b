use Rattle.std.proofs.Common.{◌∷◌, [], rules, inl, inr, List, None, Result, refl, sym, subst}
use Rattle.model_journal.specs.Entry.{Update, Entry, entry}
use Rattle.model_world.specs.World.{updated}
use Rattle.model_core.specs.Peer.{peer_of}
use Rattle.lasp_state.specs.State.{op_of}
use Rattle.lasp_store.specs.Turn.{HadTurn, frame_of}
use Rattle.lasp_store.specs.Settled.{KnowsOwn}
use Rattle.lasp_drive.specs.Node.{MayUpdate, Updates, TakesIn}
use Rattle.lasp_drive.specs.declared.node.NodeStop.{NodeStop}
use Rattle.lasp_store_node.specs.View.{node_of, node_seen}
use Rattle.lasp_store_node.proofs.CallLaws.{HasCalled, has-called, takes-ok, takes-none, update-ok, update-large, update-refused}
use Rattle.lasp_store_node.proofs.CountedLaws.{tried-own}
use Rattle.lasp_store_node.proofs.node.StoreNodeNode.update.Goals.{in-Ok, in-Err-TooManyRows, in-Err-Memory}
use Rattle.lasp_store_node.proofs.node.StoreNodeNode.update.Goals as goal

pub unreachable-requires : goal.unreachable-requires
unreachable-requires g c =
    let new = c.update_with.new.f in
    let last = c.self.inside.last in
    let called : (more : List Entry) → KnowsOwn new → HadTurn more c.self.inside.feed new → HasCalled c.self.inside.store.now more last c.args.self.now new = λ more knows t.
    has-called _ more c.self.inside.feed last c.args.self.now new c.self.view_is c.self.invariant.early c.self.invariant.feed (record { own = c.known.ensures.own; allowed = c.known.ensures.allowed }) knows t in
    let old = c.args.self.now.feed in
    let may : MayUpdate (node_of old None) c.args.x c.args.op.now = record { held = c.requires.may.held; member = c.requires.may.member; var = c.requires.may.var; may = c.requires.may.may; suits_it = c.requires.may.suits_it; room = c.requires.may.room } in
    elim (update-refused _ old new c.args.x c.args.op.now c.in-Err.field-0 may (called _ (record { own = c.known-in-Err.ensures.own; allowed = c.known-in-Err.ensures.allowed }) c.in-Err.ensures.err).turned c.in-Err.ensures.answer) [
      | inl is ↦ search rules
      | inr is ↦ search rules
    ]

pub returns-clause-done : goal.returns-clause-done
returns-clause-done g c =
    let new = c.update_with.new.f in
    let last = c.self.inside.last in
    let called : (more : List Entry) → KnowsOwn new → HadTurn more c.self.inside.feed new → HasCalled c.self.inside.store.now more last c.args.self.now new = λ more knows t.
    has-called _ more c.self.inside.feed last c.args.self.now new c.self.view_is c.self.invariant.early c.self.invariant.feed (record { own = c.known.ensures.own; allowed = c.known.ensures.allowed }) knows t in
    let old = c.args.self.now.feed in
    let may : MayUpdate (node_of old None) c.args.x c.args.op.now = record { held = c.requires.may.held; member = c.requires.may.member; var = c.requires.may.var; may = c.requires.may.may; suits_it = c.requires.may.suits_it; room = c.requires.may.room } in
    let expected = updated (frame_of old).replica c.args.x (op_of c.args.op.now) (peer_of (frame_of old) old.seen) in
    elim c.match-update_with.branch [
      | in-Ok w ↦ subst (λ (r : Result (Unit {0}) NodeStop). Updates expected c.args.x r (peer_of (frame_of new) new.seen)) (sym w.result-is)
          (update-ok _ old new c.args.x c.args.op.now may (called _ (record { own = w.known-in-Ok.ensures.own; allowed = w.known-in-Ok.ensures.allowed }) w.in-Ok.ensures.ok).turned w.in-Ok.ensures.answer)
      | in-Err-TooManyRows w ↦ subst (λ (r : Result (Unit {0}) NodeStop). Updates expected c.args.x r (peer_of (frame_of new) new.seen)) (sym w.result-is)
          (refl, update-large _ old new c.args.x c.args.op.now w.in-Err-TooManyRows.field-0 may (called _ (record { own = w.known-in-Err-TooManyRows.ensures.own; allowed = w.known-in-Err-TooManyRows.ensures.allowed }) w.in-Err-TooManyRows.ensures.err).turned w.in-Err-TooManyRows.field-0-is w.in-Err-TooManyRows.ensures.answer)
      | in-Err-Memory w ↦ subst (λ (r : Result (Unit {0}) NodeStop). Updates expected c.args.x r (peer_of (frame_of new) new.seen)) (sym w.result-is) tt
    ]

pub returns-clause-takes : goal.returns-clause-takes
returns-clause-takes g c =
    let new = c.update_with.new.f in
    let last = c.self.inside.last in
    let called : (more : List Entry) → KnowsOwn new → HadTurn more c.self.inside.feed new → HasCalled c.self.inside.store.now more last c.args.self.now new = λ more knows t.
    has-called _ more c.self.inside.feed last c.args.self.now new c.self.view_is c.self.invariant.early c.self.invariant.feed (record { own = c.known.ensures.own; allowed = c.known.ensures.allowed }) knows t in
    let old = c.args.self.now in
    let a = Update c.args.x (op_of c.args.op.now) in
    elim c.match-update_with.branch [
      | in-Ok w ↦ subst (λ (r : Result (Unit {0}) NodeStop). TakesIn a (node_seen old) r (node_of new last)) (sym w.result-is) (takes-ok _ last old new a refl refl (called _ (record { own = w.known-in-Ok.ensures.own; allowed = w.known-in-Ok.ensures.allowed }) w.in-Ok.ensures.ok))
      | in-Err-TooManyRows w ↦ subst (λ (r : Result (Unit {0}) NodeStop). TakesIn a (node_seen old) r (node_of new last)) (sym w.result-is) (takes-none _ last old new a _ (called _ (record { own = w.known-in-Err-TooManyRows.ensures.own; allowed = w.known-in-Err-TooManyRows.ensures.allowed }) w.in-Err-TooManyRows.ensures.err))
      | in-Err-Memory w ↦ subst (λ (r : Result (Unit {0}) NodeStop). TakesIn a (node_seen old) r (node_of new last)) (sym w.result-is) (takes-none _ last old new a _ (called _ (record { own = w.known-in-Err-Memory.ensures.own; allowed = w.known-in-Err-Memory.ensures.allowed }) w.in-Err-Memory.ensures.err))
    ]

pub invariant_of-self : goal.invariant_of-self
invariant_of-self g c =
    tried-own c.self.inside.store.now c.self.inside.last c.self.inside.window c.self.inside.known (entry 0 (Update c.args.x (op_of c.args.op.now)) ∷ []) c.self.inside.feed c.update_with.new.f c.update_with.result c.update_with.ensures.ok c.update_with.ensures.err c.self.invariant
