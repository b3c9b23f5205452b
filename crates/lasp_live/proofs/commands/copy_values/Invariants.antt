use Rattle.std.proofs.Common.{◌≡◌, ◌≤◌, length, take}
use Rattle.lasp_live.proofs.commands.copy_values.Given as goal

abbrev pub invariant-loop-i : goal.invariant-loop-i
invariant-loop-i l = record {
  within : l.i ≤ length l.values;
  so_far : l.copy ≡ take l.i l.values;
}
