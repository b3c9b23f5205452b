use Rattle.std.proofs.Common.{◌≡◌, ◌<◌, ◌+◌, List, length, slice_set, sym, ap, subst, ◌∙◌, arith}
use Rattle.lasp_replica.specs.History.{grown}
use Rattle.lasp_replica.specs.Kept.{Kept}
use Rattle.lasp_replica.specs.Replica.{kept_at}
use Rattle.lasp_replica.specs.Delivery.{AreRecordedTo}
use Rattle.lasp_replica.proofs.RecordLaws.{kept-here, recorded-grown, recorded-still}
use Rattle.lasp_replica.proofs.replica.deliver.record_all.Goals as goal
use Rattle.lasp_replica.proofs.replica.deliver.record_all.Goals.{then-grow-x, else-grow-x}

pub loop-x-preserved : goal.loop-x-preserved
loop-x-preserved c = elim c.if-grow-x.branch [
  | then-grow-x w ↦
      let items : c.if-grow-x.histories.items ≡ slice_set c.loop-x.histories.items c.loop-x.x w.record.new.self = λ j. (w.histories-is j).items in
      let low : c.loop-x.x < length c.args.histories.now.items = omega (arith, c.loop-x-test.true, c.requires.many) in
      let here : kept_at c.loop-x.histories.items c.loop-x.x ≡ w.index_mut.result.now = kept-here c.loop-x.histories.items c.loop-x.x w.index_mut.result.now (omega (arith, low, c.loop-x.invariant.many)) w.index_mut.ensures.value in
      subst (λ (hs : List Kept). AreRecordedTo (c.loop-x.x + 1) c.args.grow.now c.args.entry c.args.histories.now.items hs) (sym items)
      (recorded-grown c.args.grow.now c.args.entry c.args.histories.now.items c.loop-x.x c.loop-x.histories.items c.loop-x.invariant w.record.new.self low w.if-grow-x.true
      (w.record.ensures.history ∙ ap (λ (k : Kept). grown k.history k.pending c.args.entry) (sym here)))
  | else-grow-x w ↦
      let items : c.if-grow-x.histories.items ≡ c.loop-x.histories.items = λ j. (w.histories-is j).items in
      subst (λ (hs : List Kept). AreRecordedTo (c.loop-x.x + 1) c.args.grow.now c.args.entry c.args.histories.now.items hs) (sym items)
      (recorded-still c.args.grow.now c.args.entry c.args.histories.now.items c.loop-x.x c.loop-x.histories.items c.loop-x.invariant w.if-grow-x.false)
]
