use Rattle.std.proofs.Common.{◌++◌, length, ap, arith}
use Rattle.std.specs.Vec.Iter.{into_iter_items}
use Rattle.lasp_logset.proofs.KeptLaws.{came-in, rises-in}
use Rattle.lasp_logset.proofs.ChainLaws.{stay-more}
use Rattle.lasp_logset.proofs.table.put_news.Goals as goal

pub loop-coming-preserved : goal.loop-coming-preserved
loop-coming-preserved c =
    let many = ap length c.in-Some.ensures.items in
    record {
      kept = c.put_in.ensures.kept;
      stay = stay-more c.args.rows.now.entries c.loop-coming.rows.entries c.put_in.new.rows.entries c.loop-coming.invariant.stay c.put_in.ensures.stay;
      items =
          came-in c.loop-coming.log.items c.put_in.new.log.items (into_iter_items c.loop-coming.left) (into_iter_items c.next.new.self) (c.args.log.now.items ++ c.args.news.items) c.in-Some.coming c.in-Some.ensures.items
          c.in-Ok.ensures.ok c.loop-coming.invariant.items;
      rises = rises-in c.loop-coming.log.items c.put_in.new.log.items (into_iter_items c.loop-coming.left) (into_iter_items c.next.new.self) c.in-Some.coming c.in-Some.ensures.items c.in-Ok.ensures.ok c.loop-coming.invariant.rises;
      spare = omega (arith, many, c.loop-coming.invariant.spare, c.put_in.ensures.spare);
      room = omega (arith, many, c.loop-coming.invariant.room, c.put_in.ensures.room);
    }
