use Rattle.std.proofs.Common.{map, refl, sym, subst}
use Rattle.model_functions.specs.Map.{mapped}
use Rattle.model_sets.specs.Equations.{moved, map_set}
use Rattle.model_sets.specs.Rows.{IsAscending, join}
use Rattle.lasp_value.specs.Value.{val_of}
use Rattle.lasp_fns.specs.Stored.{ops_of}
use Rattle.lasp_setops.proofs.EntryLaws.{join-moved}
use Rattle.lasp_setops.proofs.JoinLaws.{first-rows, next-row, last-row, moved-is}
use Rattle.lasp_setops.proofs.WidthLaws.{sized-row, width-entries, width-rest}
use Rattle.lasp_setops.proofs.map.map_set.Goals as goal

pub loop-row-init : goal.loop-row-init
loop-row-init g c =
    (first-rows (map (moved (mapped (ops_of c.args.f.now))) c.args.x.now) (map (moved (mapped (ops_of c.args.f.now))) c.in_ok-rows.rows) (map_set (mapped (ops_of c.args.f.now)) c.args.x.now) c.empty-out.result (join-moved c.empty-out.result (moved (mapped (ops_of c.args.f.now))) c.in_ok-rows.rows c.args.x.now c.in_ok-rows.ensures.apart c.in_ok-rows.ensures.rows) (subst IsAscending (sym c.empty-out.ensures) refl) (λ i. join (sym c.empty-out.ensures i) (map (moved (mapped (ops_of c.args.f.now))) c.args.x.now)), width-entries 16 c.in_ok-rows.rows c.args.x.now c.in_ok-rows.ensures.rows c.requires.width)

pub call-requires : goal.call-requires
call-requires g c =
    sized-row c.loop-row.rows c.next.new.self c.in-Some.row (val_of c.value-value.result.now) c.in-Some.ensures.some c.value-value.ensures c.loop-row.invariant.1 c.recall_ints.ensures

pub loop-row-preserved : goal.loop-row-preserved
loop-row-preserved g c =
    (next-row (moved (mapped (ops_of c.args.f.now))) c.loop-row.out c.add.new.self c.loop-row.rows c.next.new.self (map_set (mapped (ops_of c.args.f.now)) c.args.x.now) c.in-Some.row c.in_ok-moved.moved c.in-Some.ensures.some (moved-is (mapped (ops_of c.args.f.now)) c.in-Some.row (val_of c.value-value.result.now) (val_of c.in_ok-image.image) c.in_ok-moved.moved c.value-value.ensures c.in_ok-image.ensures c.in_ok-moved.ensures) c.in_ok-add.ensures.ok c.loop-row.invariant.0, width-rest 16 c.loop-row.rows c.next.new.self c.in-Some.row c.in-Some.ensures.some c.loop-row.invariant.1)

pub returns : goal.returns
returns g c =
    last-row (moved (mapped (ops_of c.args.f.now))) c.loop-row.out c.loop-row.rows (map_set (mapped (ops_of c.args.f.now)) c.args.x.now) c.in_default.ensures.none c.loop-row.invariant.0
