use Rattle.std.proofs.Common.{◌∙◌, ap}
use Rattle.std.proofs.Math.Seq.{map-set_same}
use Rattle.lasp_replica.specs.Replica.{frame_of, entries_of}
use Rattle.lasp_core.specs.Reads.{read_of}
use Rattle.lasp_core.specs.Lacking.{IsWaiting, WasWaiting}
use Rattle.lasp_core.proofs.LackLaws.{each-front, each-behind}
use Rattle.lasp_core.proofs.parked.seek_in_all.Goals as goal

pub loop-i-preserved : goal.loop-i-preserved
loop-i-preserved c =
    let reads = c.loop-i.parked.items in
    let r = c.args.replica.now in
    record {
      same = map-set_same read_of reads c.loop-i.i c.seek_in.new.read c.index_mut.result.now (c.seek_in.ensures.same ∙ ap read_of c.index_mut.ensures.value) ∙ c.loop-i.invariant.same;
      many = c.loop-i.invariant.many;
      sought = each-front (IsWaiting (frame_of r) (entries_of r)) reads c.loop-i.i c.seek_in.new.read c.loop-i.invariant.sought c.seek_in.ensures.waits;
      left = each-behind (WasWaiting r c.args.n) reads c.loop-i.i c.seek_in.new.read c.loop-i.invariant.left;
    }
