use Rattle.std.proofs.Common.{◌≡◌, take}
use Rattle.lasp_log.proofs.log.Log.share.Given as goal

abbrev pub invariant-loop-chunk : goal.invariant-loop-chunk
invariant-loop-chunk g l = l.sealed.items ≡ take l.chunk-index l.self-inside.sealed.items

abbrev pub invariant-loop-item : goal.invariant-loop-item
invariant-loop-item g l = l.newest.items ≡ take l.item-index l.self-inside.newest.items
