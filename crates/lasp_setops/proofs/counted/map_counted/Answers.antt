use Rattle.std.proofs.Common.{◌∙◌, ◌+◌, map, refl, sym, ap, subst, length, arith, ◌<◌}
use Rattle.model_functions.specs.Map.{mapped}
use Rattle.model_sets.specs.Equations.{moved, map_set}
use Rattle.model_sets.specs.Rows.{IsAscending, join}
use Rattle.lasp_value.specs.Value.{val_of}
use Rattle.lasp_fns.specs.Library.{maps_of, map_ops_at}
use Rattle.lasp_fns.specs.Steps.{library_of, ticks_of}
use Rattle.lasp_setops.proofs.EntryLaws.{join-moved, same-length}
use Rattle.lasp_setops.proofs.TickLaws.{tick-start, tick-next, tick-stopped}
use Rattle.lasp_setops.proofs.JoinLaws.{first-rows, next-row, last-row, moved-is}
use Rattle.lasp_setops.proofs.WidthLaws.{sized-row, width-entries, width-rest}
use Rattle.lasp_setops.proofs.counted.map_counted.Goals as goal

pub loop-row-init : goal.loop-row-init
loop-row-init g c =
    (first-rows (map (moved (mapped (map_ops_at (library_of c.args.lib.now) c.args.f))) c.args.x.now) (map (moved (mapped (map_ops_at (library_of c.args.lib.now) c.args.f))) c.in_ok-rows.rows) (map_set (mapped (map_ops_at (library_of c.args.lib.now) c.args.f)) c.args.x.now) c.empty-out.result (join-moved c.empty-out.result (moved (mapped (map_ops_at (library_of c.args.lib.now) c.args.f))) c.in_ok-rows.rows c.args.x.now c.in_ok-rows.ensures.apart c.in_ok-rows.ensures.rows) (subst IsAscending (sym c.empty-out.ensures) refl) (λ i. join (sym c.empty-out.ensures i) (map (moved (mapped (map_ops_at (library_of c.args.lib.now) c.args.f))) c.args.x.now)), width-entries 16 c.in_ok-rows.rows c.args.x.now c.in_ok-rows.ensures.rows c.requires.width, refl, tick-start (ticks_of c.args.lib.now) c.in_ok-rows.rows c.args.x.now (same-length c.in_ok-rows.rows c.args.x.now c.in_ok-rows.ensures.apart c.in_ok-rows.ensures.rows))

pub call_map-requires-clause-sized : goal.call_map-requires-clause-sized
call_map-requires-clause-sized g c =
    sized-row c.loop-row.rows c.next.new.self c.in-Some.row (val_of c.value-value.result.now) c.in-Some.ensures.some c.value-value.ensures c.loop-row.invariant.1 c.recall_ints.ensures

pub loop-row-preserved : goal.loop-row-preserved
loop-row-preserved g c =
    (next-row (moved (mapped (map_ops_at (library_of c.args.lib.now) c.args.f))) c.loop-row.out c.add.new.self c.loop-row.rows c.next.new.self (map_set (mapped (map_ops_at (library_of c.args.lib.now) c.args.f)) c.args.x.now) c.in-Some.row c.in_ok-moved.moved c.in-Some.ensures.some (moved-is (mapped (map_ops_at (library_of c.args.lib.now) c.args.f)) c.in-Some.row (val_of c.value-value.result.now) (val_of c.in_ok-image.image) c.in_ok-moved.moved c.value-value.ensures (c.in_ok-image.ensures.answer ∙ ap (λ l. mapped (map_ops_at l c.args.f) (val_of c.value-value.result.now)) c.loop-row.invariant.2) c.in_ok-moved.ensures) c.in_ok-add.ensures.ok c.loop-row.invariant.0, width-rest 16 c.loop-row.rows c.next.new.self c.in-Some.row c.in-Some.ensures.some c.loop-row.invariant.1, c.call_map.ensures.library ∙ c.loop-row.invariant.2, tick-next (ticks_of c.loop-row.lib) (ticks_of c.call_map.new.self) (ticks_of c.args.lib.now + length c.args.x.now) c.loop-row.rows c.next.new.self c.in-Some.row c.in-Some.ensures.some c.call_map.ensures.ticks c.loop-row.invariant.3)

pub returns-clause-ok : goal.returns-clause-ok
returns-clause-ok g c =
    last-row (moved (mapped (map_ops_at (library_of c.args.lib.now) c.args.f))) c.loop-row.out c.loop-row.rows (map_set (mapped (map_ops_at (library_of c.args.lib.now) c.args.f)) c.args.x.now) c.in_default.ensures.none c.loop-row.invariant.0

pub call_map-requires-clause-place : goal.call_map-requires-clause-place
call_map-requires-clause-place g c = subst (λ l. c.args.f < length (maps_of l)) (sym c.loop-row.invariant.2) c.requires.place

pub returns-in_err-image-clause-library : goal.returns-in_err-image-clause-library
returns-in_err-image-clause-library g c = c.call_map.ensures.library ∙ c.loop-row.invariant.2

pub returns-in_err-image-clause-ticks : goal.returns-in_err-image-clause-ticks
returns-in_err-image-clause-ticks g c = tick-stopped (ticks_of c.loop-row.lib) (ticks_of c.call_map.new.self) (ticks_of c.args.lib.now + length c.args.x.now) c.loop-row.rows c.next.new.self c.in-Some.row c.in-Some.ensures.some c.call_map.ensures.ticks c.loop-row.invariant.3

pub returns-in_err-moved-clause-library : goal.returns-in_err-moved-clause-library
returns-in_err-moved-clause-library g c = c.call_map.ensures.library ∙ c.loop-row.invariant.2

pub returns-in_err-moved-clause-ticks : goal.returns-in_err-moved-clause-ticks
returns-in_err-moved-clause-ticks g c = tick-stopped (ticks_of c.loop-row.lib) (ticks_of c.call_map.new.self) (ticks_of c.args.lib.now + length c.args.x.now) c.loop-row.rows c.next.new.self c.in-Some.row c.in-Some.ensures.some c.call_map.ensures.ticks c.loop-row.invariant.3

pub returns-in_err-add-clause-library : goal.returns-in_err-add-clause-library
returns-in_err-add-clause-library g c = c.call_map.ensures.library ∙ c.loop-row.invariant.2

pub returns-in_err-add-clause-ticks : goal.returns-in_err-add-clause-ticks
returns-in_err-add-clause-ticks g c = tick-stopped (ticks_of c.loop-row.lib) (ticks_of c.call_map.new.self) (ticks_of c.args.lib.now + length c.args.x.now) c.loop-row.rows c.next.new.self c.in-Some.row c.in-Some.ensures.some c.call_map.ensures.ticks c.loop-row.invariant.3

pub returns-clause-library : goal.returns-clause-library
returns-clause-library g c = c.loop-row.invariant.2

pub returns-clause-ticks : goal.returns-clause-ticks
returns-clause-ticks g c = omega (arith, c.loop-row.invariant.3)
