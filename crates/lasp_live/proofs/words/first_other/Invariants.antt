use Rattle.std.proofs.Common.{◌≡◌, ◌+◌, ◌≤◌, length, drop}
use Rattle.model_live.specs.Words.{first_other}
use Rattle.lasp_live.proofs.words.first_other.Given as goal

abbrev pub invariant-loop-i : goal.invariant-loop-i
invariant-loop-i l = record {
  number : l.number ≡ l.i + 1;
  within : l.i ≤ length l.script.commands;
  rest : first_other l.number (drop l.i l.script.commands) ≡ first_other 1 l.script.commands;
}
