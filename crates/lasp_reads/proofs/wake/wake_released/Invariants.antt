use Rattle.std.proofs.Common.{◌≡◌, ◌≤◌, ◌++◌, length, take}
use Rattle.std.specs.Option.{option_map}
use Rattle.lasp_reads.specs.Wake.{numbers}
use Rattle.lasp_reads.proofs.wake.wake_released.Given as goal

abbrev pub invariant-loop-i : goal.invariant-loop-i
invariant-loop-i g l = record {
  room : g.W.Wake.room l.w ≡ g.W.Wake.room l.fn.w;
  woken : g.W.Wake.woken l.w ≡ option_map (λ list. list ++ numbers (take l.i l.released)) (g.W.Wake.woken l.fn.w);
  within : l.i ≤ length l.released;
}
