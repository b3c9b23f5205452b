use Rattle.std.proofs.Common.{length, ap, arith}
use Rattle.std.specs.Vec.Iter.{into_iter_items}
use Rattle.lasp_logset.proofs.ChainLaws.{stay-more}
use Rattle.lasp_logset.proofs.TakenLaws.{taking-next}
use Rattle.lasp_logset.proofs.telling.put_told.Goals as goal

pub loop-row-preserved : goal.loop-row-preserved
loop-row-preserved c =
    let many = ap length c.in-Some.ensures.items in
    record {
      kept = c.put_one.ensures.kept;
      stay = stay-more c.args.rows.now.entries c.loop-row.rows.entries c.put_one.new.rows.entries c.loop-row.invariant.stay c.put_one.ensures.stay;
      taking =
          taking-next c.args.log.now.items c.args.coming.items (into_iter_items c.loop-row.left) (into_iter_items c.next.new.self) c.loop-row.log.items c.put_one.new.log.items c.loop-row.told.items c.put_one.new.told.items c.in-Some.row c.in-Some.ensures.items
          c.in-Ok.ensures.log c.in-Ok.ensures.told c.loop-row.invariant.taking;
      spare = omega (arith, many, c.loop-row.invariant.spare, c.put_one.ensures.spare);
      room = omega (arith, many, c.loop-row.invariant.room, c.put_one.ensures.room);
      place = omega (arith, many, c.loop-row.invariant.place, c.put_one.ensures.place, c.put_one.ensures.many);
    }
