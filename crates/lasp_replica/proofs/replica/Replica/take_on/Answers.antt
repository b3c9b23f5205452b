use Rattle.std.proofs.Common.{rules, to_z, of_z, ◌≡◌, IsTrue, slice_set, refl, sym, ap, subst, ◌∙◌, arith}
use Rattle.std.proofs.lemmas.List.{get_or-set_same}
use mir.Syntax.{w128}
use Rattle.std.specs.Arc.{arc_value}
use Rattle.model_sets.specs.Rows.{join}
use Rattle.model_states.specs.Content.{of_set}
use Rattle.lasp_graph.specs.States.{Held, held_at, extended}
use Rattle.lasp_replica.specs.Kept.{Kept}
use Rattle.lasp_replica.specs.Parts.{news_of}
use Rattle.lasp_replica.specs.Replica.{no_kept, kept_at}
use Rattle.lasp_replica.proofs.RowsLaws.{ready-rows}
use Rattle.lasp_replica.proofs.TakeLaws.{states-at}
use Rattle.lasp_replica.proofs.TakenLaws.{told-set}
use Rattle.lasp_replica.proofs.UpdateLaws.{stays, on-err}
use Rattle.lasp_replica.proofs.FinishLaws.{history-there}
use Rattle.lasp_replica.proofs.InPlaceLaws.{held-there, grows-is}
use Rattle.lasp_replica.proofs.replica.Replica.take_on.Goals as goal

pub at-requires : goal.at-requires
at-requires c = states-at c.args.self.now c.requires.replica c.args.var c.from-x.result c.from-x.ensures c.requires.derived.declared

pub returns-in_err-reserve-clause-err : goal.returns-in_err-reserve-clause-err
returns-in_err-reserve-clause-err c = on-err c.from_residual-in_err-reserve.result (stays c.args.self.now _ c.requires.replica refl refl refl refl refl (told-set c.args.self.now.histories.items c.args.var c.index_mut.result.now c.prepare.new.self c.index_mut.ensures.value c.prepare.ensures.history) refl refl c.reserve.ensures.items)

pub extend_at-requires-clause-within : goal.extend_at-requires-clause-within
extend_at-requires-clause-within c = states-at c.args.self.now c.requires.replica c.args.var c.from-x.result c.from-x.ensures c.requires.derived.declared

pub returns-in_err-extend_at-clause-err : goal.returns-in_err-extend_at-clause-err
returns-in_err-extend_at-clause-err c = on-err c.from_residual-in_err-extend_at.result (stays c.args.self.now _ c.requires.replica refl refl refl refl c.in_err-extend_at.ensures.err (told-set c.args.self.now.histories.items c.args.var c.index_mut.result.now c.prepare.new.self c.index_mut.ensures.value c.prepare.ensures.history) refl refl c.reserve.ensures.items)

pub returns-clause-ok : goal.returns-clause-ok
returns-clause-ok c =
    let r = c.args.self.now in
    let y = c.args.var in
    let rows = c.args.rows.now in
    let number = c.args.number in
    let same : to_z w128 (of_z w128 number) ≡ number = search rules in
    let there = held-there r.states c.from-x.result y (arc_value c.at.result.now) c.deref.result.now c.from-x.ensures c.at.ensures c.deref.ensures in
    let own : kept_at (slice_set r.histories.items y c.prepare.new.self) y ≡ c.prepare.new.self = get_or-set_same r.histories.items y c.prepare.new.self no_kept (history-there r c.requires.replica y c.requires.derived) in
    record {
      graph = refl;
      opening = refl;
      me = refl;
      counts = refl;
      processes = refl;
      entries = c.reserve.ensures.items;
      room = omega (arith, c.in_ok-reserve.ensures.ok);
      states = c.in_ok-extend_at.ensures.ok ∙ (λ j. slice_set r.states (c.from-x.ensures j) (extended (held_at r.states (c.from-x.ensures j)) rows (same j)));
      histories = told-set r.histories.items y c.index_mut.result.now c.prepare.new.self c.index_mut.ensures.value c.prepare.ensures.history;
      ready = subst (λ (k : Kept). IsTrue k.prepared) (sym own) c.in_ok-prepare.ensures.prepared;
      pending = ready-rows _ (kept_at (slice_set r.histories.items y c.prepare.new.self) y) c.prepare.new.self own
          (c.in_ok-prepare.ensures.pending ∙ c.told_rows-told.ensures ∙ ap (λ (h : Held). news_of h.shape h.content (of_set (join h.content.rows rows))) there) c.in_ok-prepare.ensures.apart;
      still = grows-is (held_at r.states y) rows number c.rows-grows.result c.requires.new c.rows-grows.ensures.exact;
    }
