use Rattle.std.proofs.Common.{rules, to_z, of_z, ◌≡◌, ◌↔◌, IsTrue, slice_set, refl, ap, subst, ◌∙◌, arith}
use Rattle.std.proofs.lemmas.List.{get_or-set_same}
use mir.Syntax.{w128}
use Rattle.std.specs.Arc.{arc_value}
use Rattle.model_sets.specs.Rows.{of_rows}
use Rattle.model_sets.specs.Equations.{changed}
use Rattle.model_sets.proofs.RowLaws.{ascending-of_rows}
use Rattle.model_states.specs.Threshold.{set}
use Rattle.lasp_graph.specs.States.{Held, held_at, extended}
use Rattle.lasp_replica.specs.Kept.{Kept}
use Rattle.lasp_replica.specs.Replica.{no_kept, kept_at}
use Rattle.lasp_replica.proofs.TakeLaws.{states-at}
use Rattle.lasp_replica.proofs.TakenLaws.{told-set}
use Rattle.lasp_replica.proofs.UpdateLaws.{stays, on-err}
use Rattle.lasp_replica.proofs.FinishLaws.{history-there}
use Rattle.lasp_replica.proofs.InPlaceLaws.{held-there, few-new, grows-by, told-by}
use Rattle.lasp_replica.proofs.replica.Replica.take_rows.Goals as goal

pub at-requires : goal.at-requires
at-requires c = states-at c.args.self.now c.requires.replica c.args.var c.from-x.result c.from-x.ensures c.requires.derived.declared

pub returns-in_err-reserve-clause-err : goal.returns-in_err-reserve-clause-err
returns-in_err-reserve-clause-err c = on-err c.from_residual-in_err-reserve.result (stays c.args.self.now _ c.requires.replica refl refl refl refl refl (told-set c.args.self.now.histories.items c.args.var c.index_mut.result.now c.prepare_for.new.self c.index_mut.ensures.value c.prepare_for.ensures.history) refl refl c.reserve.ensures.items)

pub take_in_at-requires-clause-within : goal.take_in_at-requires-clause-within
take_in_at-requires-clause-within c = states-at c.args.self.now c.requires.replica c.args.var c.from-x.result c.from-x.ensures c.requires.derived.declared

pub returns-in_err-new-clause-err : goal.returns-in_err-new-clause-err
returns-in_err-new-clause-err c = on-err c.from_residual-in_err-new.result (stays c.args.self.now _ c.requires.replica refl refl refl refl c.in_err-new.ensures.err (told-set c.args.self.now.histories.items c.args.var c.index_mut.result.now c.prepare_for.new.self c.index_mut.ensures.value c.prepare_for.ensures.history) refl refl c.reserve.ensures.items)

pub tell-requires-clause-room : goal.tell-requires-clause-room
tell-requires-clause-room c =
    let r = c.args.self.now in
    let y = c.args.var in
    let own : kept_at (slice_set r.histories.items y c.prepare_for.new.self) y ≡ c.prepare_for.new.self = get_or-set_same r.histories.items y c.prepare_for.new.self no_kept (history-there r c.requires.replica y c.requires.derived) in
    let few = few-new (held_at r.states c.from-x.result).content.rows c.args.given.rows.items c.in_ok-new.new c.in_ok-new.ensures.told in
    omega (arith, few, ap (λ (k : Kept). k.room) own, c.in_ok-prepare_for.ensures.room, c.len.ensures, c.args.given.rows.ok.0)

pub returns-clause-ok : goal.returns-clause-ok
returns-clause-ok c =
    let r = c.args.self.now in
    let y = c.args.var in
    let rows = of_rows c.args.given.rows.items in
    let number = c.args.given.number in
    let same : to_z w128 (of_z w128 number) ≡ number = search rules in
    let there = held-there r.states c.from-x.result y (arc_value c.at.result.now) c.deref.result.now c.from-x.ensures c.at.ensures c.deref.ensures in
    let own : kept_at (slice_set r.histories.items y c.prepare_for.new.self) y ≡ c.prepare_for.new.self = get_or-set_same r.histories.items y c.prepare_for.new.self no_kept (history-there r c.requires.replica y c.requires.derived) in
    let new : c.in_ok-new.new ≡ changed (held_at r.states y).content.rows rows = c.in_ok-new.ensures.told ∙ ap (λ x. changed (held_at r.states x).content.rows rows) c.from-x.ensures in
    let shape : IsTrue c.is_set-is_told.result ↔ ((held_at r.states y).shape ≡ set) = subst (λ (h : Held). IsTrue c.is_set-is_told.result ↔ (h.shape ≡ set)) there c.is_set-is_told.ensures in
    record {
      graph = refl;
      opening = refl;
      me = refl;
      counts = refl;
      processes = refl;
      entries = c.reserve.ensures.items;
      room = omega (arith, c.in_ok-reserve.ensures.ok);
      states = c.in_ok-new.ensures.ok ∙ (λ j. slice_set r.states (c.from-x.ensures j) (extended (held_at r.states (c.from-x.ensures j)) rows (same j)));
      histories = c.tell.ensures.told ∙ told-set r.histories.items y c.index_mut.result.now c.prepare_for.new.self c.index_mut.ensures.value c.prepare_for.ensures.history;
      ready = c.tell.ensures.prepared;
      pending = told-by (held_at r.states y) rows c.in_ok-new.new number (ascending-of_rows c.args.given.rows.items) new c.is_set-is_told.result (kept_at c.tell.new.histories.items y).pending (kept_at (slice_set r.histories.items y c.prepare_for.new.self) y).pending shape
          c.tell.ensures.rows c.tell.ensures.none (ap (λ (k : Kept). k.pending) own ∙ c.in_ok-prepare_for.ensures.pending);
      still = grows-by (held_at r.states y) rows c.in_ok-new.new number (ascending-of_rows c.args.given.rows.items) new c.len-grows.result c.len-grows.ensures.exact;
    }
