use Rattle.std.proofs.Common.{◌∙◌, ◌<◌, length, map, sym, ap, subst, arith, take_all}
use Rattle.model_functions.specs.Map.{mapped}
use Rattle.model_sets.specs.Equations.{moved}
use Rattle.lasp_value.specs.Value.{val_of}
use Rattle.lasp_fns.specs.Library.{maps_of, map_ops_at}
use Rattle.lasp_fns.specs.Steps.{library_of}
use Rattle.lasp_setops.proofs.JoinLaws.{moved-is}
use Rattle.lasp_setops.proofs.ListedLaws.{mapped-more, map-listed, sized-listed}
use Rattle.lasp_setops.proofs.listed.map_rows.Goals as goal

pub call_map-requires-clause-place : goal.call_map-requires-clause-place
call_map-requires-clause-place g c = subst (λ l. c.args.f < length (maps_of l)) (sym c.loop-row.invariant.1) c.requires.place

pub call_map-requires-clause-sized : goal.call_map-requires-clause-sized
call_map-requires-clause-sized g c =
    sized-listed c.args.rows.now c.loop-row.row-index c.row-item.result (val_of c.value-value.result.now) c.loop-row-test.true c.row-item.is c.value-value.ensures c.requires.width c.recall_ints.ensures

pub loop-row-preserved : goal.loop-row-preserved
loop-row-preserved g c = (
  mapped-more (moved (mapped (map_ops_at (library_of c.args.lib.now) c.args.f))) c.args.rows.now c.loop-row.row-index c.row-item.result c.in_ok-moved.moved c.loop-row.out.items c.push.new.self.items c.loop-row-test.true c.row-item.is
      (moved-is (mapped (map_ops_at (library_of c.args.lib.now) c.args.f)) c.row-item.result (val_of c.value-value.result.now) (val_of c.in_ok-image.image) c.in_ok-moved.moved c.value-value.ensures
      (c.in_ok-image.ensures.answer ∙ ap (λ l. mapped (map_ops_at l c.args.f) (val_of c.value-value.result.now)) c.loop-row.invariant.1) c.in_ok-moved.ensures)
      c.loop-row.invariant.0 c.in_ok-push.ensures.items,
  c.call_map.ensures.library ∙ c.loop-row.invariant.1,
  omega (arith, c.call_map.ensures.ticks, c.loop-row.invariant.2),
)

pub returns-clause-ok : goal.returns-clause-ok
returns-clause-ok g c =
    map-listed (mapped (map_ops_at (library_of c.args.lib.now) c.args.f)) c.args.rows.now c.loop-row.out.items (c.loop-row.invariant.0 ∙ ap (map (moved (mapped (map_ops_at (library_of c.args.lib.now) c.args.f)))) (take_all c.loop-row.row-index c.args.rows.now (omega (arith, c.loop-row-test.false))))
