use Rattle.std.proofs.Common.{arith, refl, sym, ap, ◌∙◌}
use Rattle.std.specs.Arc.{arc_value}
use Rattle.lasp_graph.specs.States.{Held}
use Rattle.lasp_replica.proofs.UpdateLaws.{state-found, stays, on-err, prepared}
use Rattle.lasp_replica.proofs.replica.Replica.join_gain.Goals as goal
use Rattle.lasp_replica.proofs.TakeLaws.{states-at}
use Rattle.lasp_replica.proofs.TakenLaws.{told-set}

pub at-requires : goal.at-requires
at-requires c = states-at c.args.self.now c.requires.replica c.args.var c.from-x.result c.from-x.ensures c.requires.within

pub news-requires : goal.news-requires
news-requires c =
    sym (ap (λ (h : Held). h.shape) (state-found c.args.self.now.states c.args.var c.from-x.result (arc_value c.at.result.now) c.deref-state.result.now c.from-x.ensures c.at.ensures c.deref-state.ensures))
    ∙ c.requires.joinable.shape

pub grows_by-grows-requires-clause-shape : goal.grows_by-grows-requires-clause-shape
grows_by-grows-requires-clause-shape c =
    sym (ap (λ (h : Held). h.shape) (state-found c.args.self.now.states c.args.var c.from-x.result (arc_value c.at.result.now) c.deref-state.result.now c.from-x.ensures c.at.ensures c.deref-state.ensures))
    ∙ c.requires.joinable.shape

pub returns-in_err-reserve-clause-err : goal.returns-in_err-reserve-clause-err
returns-in_err-reserve-clause-err c =
    on-err c.from_residual-in_err-reserve.result (stays c.args.self.now _ c.requires.replica refl refl refl refl refl
    (told-set c.args.self.now.histories.items c.args.var c.index_mut.result.now c.prepare.new.self c.index_mut.ensures.value c.prepare.ensures.history) refl refl c.reserve.ensures.items)

pub join_at-requires-clause-within : goal.join_at-requires-clause-within
join_at-requires-clause-within c = states-at c.args.self.now c.requires.replica c.args.var c.from-x.result c.from-x.ensures c.requires.within

pub returns-in_err-join_at-clause-err : goal.returns-in_err-join_at-clause-err
returns-in_err-join_at-clause-err c =
    on-err c.from_residual-in_err-join_at.result (stays c.args.self.now _ c.requires.replica refl refl refl refl c.in_err-join_at.ensures.err
    (told-set c.args.self.now.histories.items c.args.var c.index_mut.result.now c.prepare.new.self c.index_mut.ensures.value c.prepare.ensures.history) refl refl c.reserve.ensures.items)

pub returns-clause-ok : goal.returns-clause-ok
returns-clause-ok c =
    prepared c.args.var c.from-x.result c.args.self.now _ c.deref-state.result.now c.args.delta.now c.grows_by-grows.result c.from-x.ensures
    (state-found c.args.self.now.states c.args.var c.from-x.result (arc_value c.at.result.now) c.deref-state.result.now c.from-x.ensures c.at.ensures c.deref-state.ensures)
    c.grows_by-grows.ensures c.requires.replica c.requires.within
    c.index_mut.result.now c.prepare.new.self c.index_mut.ensures.value c.prepare.ensures.history c.in_ok-prepare.ensures.prepared (record { made = c.in_ok-prepare.ensures.pending ∙ c.in_ok-rows.ensures; apart = c.in_ok-prepare.ensures.apart }) refl
    refl refl refl refl refl c.reserve.ensures.items (omega (arith, c.in_ok-reserve.ensures.ok)) c.in_ok-join_at.ensures.ok
